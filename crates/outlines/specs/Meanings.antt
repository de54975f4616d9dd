-- What the cases of a drawing's enums mean: the keywords of SVG and CSS.
use Rattle.std.specs.Prelude.{ℕ, Bool, true, false, List, codes}
use Rattle.drawing.specs.declared.keywords.PaintOrder.{PaintOrder}
use Rattle.drawing.specs.declared.keywords.PaintOrder.TheVariants as order
use Rattle.drawing.specs.declared.keywords.FillRule.{FillRule}
use Rattle.drawing.specs.declared.keywords.FillRule.TheVariants as rule
use Rattle.drawing.specs.declared.keywords.LineCap.{LineCap}
use Rattle.drawing.specs.declared.keywords.LineCap.TheVariants as cap
use Rattle.drawing.specs.declared.keywords.LineJoin.{LineJoin}
use Rattle.drawing.specs.declared.keywords.LineJoin.TheVariants as join
use Rattle.drawing.specs.declared.keywords.BlendMode.{BlendMode}
use Rattle.drawing.specs.declared.keywords.BlendMode.TheVariants as blend
use Rattle.drawing.specs.declared.keywords.ShapeRendering.{ShapeRendering}
use Rattle.drawing.specs.declared.keywords.ShapeRendering.TheVariants as shape-rendering
use Rattle.drawing.specs.declared.keywords.ImageRendering.{ImageRendering}
use Rattle.drawing.specs.declared.keywords.ImageRendering.TheVariants as image-rendering
use Rattle.drawing.specs.declared.keywords.TextRendering.{TextRendering}
use Rattle.drawing.specs.declared.keywords.TextRendering.TheVariants as text-rendering
use Rattle.drawing.specs.declared.keywords.WritingMode.{WritingMode}
use Rattle.drawing.specs.declared.keywords.WritingMode.TheVariants as writing
use Rattle.drawing.specs.declared.keywords.TextAnchor.{TextAnchor}
use Rattle.drawing.specs.declared.keywords.TextAnchor.TheVariants as anchor
use Rattle.drawing.specs.declared.keywords.FontStyle.{FontStyle}
use Rattle.drawing.specs.declared.keywords.FontStyle.TheVariants as style
use Rattle.drawing.specs.declared.keywords.FontStretch.{FontStretch}
use Rattle.drawing.specs.declared.keywords.FontStretch.TheVariants as stretch
use Rattle.drawing.specs.declared.keywords.DominantBaseline.{DominantBaseline}
use Rattle.drawing.specs.declared.keywords.DominantBaseline.TheVariants as dominant
use Rattle.drawing.specs.declared.keywords.AlignmentBaseline.{AlignmentBaseline}
use Rattle.drawing.specs.declared.keywords.AlignmentBaseline.TheVariants as alignment
use Rattle.drawing.specs.declared.keywords.LengthAdjust.{LengthAdjust}
use Rattle.drawing.specs.declared.keywords.LengthAdjust.TheVariants as adjust
use Rattle.drawing.specs.declared.keywords.Units.{Units}
use Rattle.drawing.specs.declared.keywords.Units.TheVariants as units
use Rattle.drawing.specs.declared.keywords.SpreadMethod.{SpreadMethod}
use Rattle.drawing.specs.declared.keywords.SpreadMethod.TheVariants as spread

-- SVG 2, paint-order: normal is fill, then stroke; stroke is stroke, then fill
abbrev pub order_means : PaintOrder → List ℕ
order_means order.FillAndStroke = codes "normal"
order_means order.StrokeAndFill = codes "stroke"

-- SVG 1.1, fill-rule
abbrev pub rule_means : FillRule → List ℕ
rule_means rule.NonZero = codes "nonzero"
rule_means rule.EvenOdd = codes "evenodd"

-- SVG 1.1, stroke-linecap
abbrev pub cap_means : LineCap → List ℕ
cap_means cap.Butt = codes "butt"
cap_means cap.Round = codes "round"
cap_means cap.Square = codes "square"

-- SVG 1.1 and SVG 2, stroke-linejoin
abbrev pub join_means : LineJoin → List ℕ
join_means join.Miter = codes "miter"
join_means join.MiterClip = codes "miter-clip"
join_means join.Round = codes "round"
join_means join.Bevel = codes "bevel"

-- CSS Compositing Level 1, mix-blend-mode, and plus-lighter
abbrev pub blend_means : BlendMode → List ℕ
blend_means blend.Normal = codes "normal"
blend_means blend.Multiply = codes "multiply"
blend_means blend.Screen = codes "screen"
blend_means blend.Overlay = codes "overlay"
blend_means blend.Darken = codes "darken"
blend_means blend.Lighten = codes "lighten"
blend_means blend.ColorDodge = codes "color-dodge"
blend_means blend.ColorBurn = codes "color-burn"
blend_means blend.HardLight = codes "hard-light"
blend_means blend.SoftLight = codes "soft-light"
blend_means blend.Difference = codes "difference"
blend_means blend.Exclusion = codes "exclusion"
blend_means blend.Hue = codes "hue"
blend_means blend.Saturation = codes "saturation"
blend_means blend.Color = codes "color"
blend_means blend.Luminosity = codes "luminosity"
blend_means blend.PlusLighter = codes "plus-lighter"

-- SVG 1.1, shape-rendering
abbrev pub shape_rendering_means : ShapeRendering → List ℕ
shape_rendering_means shape-rendering.OptimizeSpeed = codes "optimizeSpeed"
shape_rendering_means shape-rendering.CrispEdges = codes "crispEdges"
shape_rendering_means shape-rendering.GeometricPrecision = codes "geometricPrecision"

-- SVG 1.1 and CSS Images, image-rendering
abbrev pub image_rendering_means : ImageRendering → List ℕ
image_rendering_means image-rendering.OptimizeQuality = codes "optimizeQuality"
image_rendering_means image-rendering.OptimizeSpeed = codes "optimizeSpeed"
image_rendering_means image-rendering.Smooth = codes "smooth"
image_rendering_means image-rendering.HighQuality = codes "high-quality"
image_rendering_means image-rendering.CrispEdges = codes "crisp-edges"
image_rendering_means image-rendering.Pixelated = codes "pixelated"

-- SVG 1.1, text-rendering
abbrev pub text_rendering_means : TextRendering → List ℕ
text_rendering_means text-rendering.OptimizeSpeed = codes "optimizeSpeed"
text_rendering_means text-rendering.OptimizeLegibility = codes "optimizeLegibility"
text_rendering_means text-rendering.GeometricPrecision = codes "geometricPrecision"

-- CSS Writing Modes, writing-mode: SVG 1.1's lr and tb
abbrev pub writing_means : WritingMode → List ℕ
writing_means writing.LeftToRight = codes "horizontal-tb"
writing_means writing.TopToBottom = codes "vertical-rl"

-- SVG 1.1, text-anchor
abbrev pub anchor_means : TextAnchor → List ℕ
anchor_means anchor.Start = codes "start"
anchor_means anchor.Middle = codes "middle"
anchor_means anchor.End = codes "end"

-- CSS Fonts, font-style
abbrev pub style_means : FontStyle → List ℕ
style_means style.Normal = codes "normal"
style_means style.Italic = codes "italic"
style_means style.Oblique = codes "oblique"

-- CSS Fonts, font-stretch
abbrev pub stretch_means : FontStretch → List ℕ
stretch_means stretch.UltraCondensed = codes "ultra-condensed"
stretch_means stretch.ExtraCondensed = codes "extra-condensed"
stretch_means stretch.Condensed = codes "condensed"
stretch_means stretch.SemiCondensed = codes "semi-condensed"
stretch_means stretch.Normal = codes "normal"
stretch_means stretch.SemiExpanded = codes "semi-expanded"
stretch_means stretch.Expanded = codes "expanded"
stretch_means stretch.ExtraExpanded = codes "extra-expanded"
stretch_means stretch.UltraExpanded = codes "ultra-expanded"

-- SVG 1.1, dominant-baseline
abbrev pub dominant_means : DominantBaseline → List ℕ
dominant_means dominant.Auto = codes "auto"
dominant_means dominant.UseScript = codes "use-script"
dominant_means dominant.NoChange = codes "no-change"
dominant_means dominant.ResetSize = codes "reset-size"
dominant_means dominant.Ideographic = codes "ideographic"
dominant_means dominant.Alphabetic = codes "alphabetic"
dominant_means dominant.Hanging = codes "hanging"
dominant_means dominant.Mathematical = codes "mathematical"
dominant_means dominant.Central = codes "central"
dominant_means dominant.Middle = codes "middle"
dominant_means dominant.TextAfterEdge = codes "text-after-edge"
dominant_means dominant.TextBeforeEdge = codes "text-before-edge"

-- SVG 1.1, alignment-baseline
abbrev pub alignment_means : AlignmentBaseline → List ℕ
alignment_means alignment.Auto = codes "auto"
alignment_means alignment.Baseline = codes "baseline"
alignment_means alignment.BeforeEdge = codes "before-edge"
alignment_means alignment.TextBeforeEdge = codes "text-before-edge"
alignment_means alignment.Middle = codes "middle"
alignment_means alignment.Central = codes "central"
alignment_means alignment.AfterEdge = codes "after-edge"
alignment_means alignment.TextAfterEdge = codes "text-after-edge"
alignment_means alignment.Ideographic = codes "ideographic"
alignment_means alignment.Alphabetic = codes "alphabetic"
alignment_means alignment.Hanging = codes "hanging"
alignment_means alignment.Mathematical = codes "mathematical"

-- SVG 1.1, lengthAdjust
abbrev pub adjust_means : LengthAdjust → List ℕ
adjust_means adjust.Spacing = codes "spacing"
adjust_means adjust.SpacingAndGlyphs = codes "spacingAndGlyphs"

-- SVG 1.1, gradientUnits
abbrev pub units_means : Units → List ℕ
units_means units.UserSpaceOnUse = codes "userSpaceOnUse"
units_means units.ObjectBoundingBox = codes "objectBoundingBox"

-- SVG 1.1, spreadMethod
abbrev pub spread_means : SpreadMethod → List ℕ
spread_means spread.Pad = codes "pad"
spread_means spread.Reflect = codes "reflect"
spread_means spread.Repeat = codes "repeat"

-- SVG 1.1, visibility
abbrev pub visibility_means : Bool → List ℕ
visibility_means true = codes "visible"
visibility_means false = codes "hidden"

-- CSS Compositing Level 1, isolation
abbrev pub isolation_means : Bool → List ℕ
isolation_means true = codes "isolate"
isolation_means false = codes "auto"

-- CSS 2.1, font-variant
abbrev pub variant_means : Bool → List ℕ
variant_means true = codes "small-caps"
variant_means false = codes "normal"

-- CSS Fonts, font-kerning
abbrev pub kerning_means : Bool → List ℕ
kerning_means true = codes "auto"
kerning_means false = codes "none"
