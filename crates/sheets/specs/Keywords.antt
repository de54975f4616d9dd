-- The keyword enums by their words: each case has the name that usvg has for it. `..-cases` are all the cases, in the order of the enum.
use Rattle.std.specs.Prelude.{ℕ, List, [], ◌∷◌, codes}
use Rattle.drawing.specs.declared.tables.Kind.{Kind}
use Rattle.drawing.specs.declared.tables.Kind.TheVariants as kind
use Rattle.drawing.specs.declared.keywords.PaintOrder.{PaintOrder}
use Rattle.drawing.specs.declared.keywords.PaintOrder.TheVariants as paint-order
use Rattle.drawing.specs.declared.keywords.FillRule.{FillRule}
use Rattle.drawing.specs.declared.keywords.FillRule.TheVariants as fill-rule
use Rattle.drawing.specs.declared.keywords.LineCap.{LineCap}
use Rattle.drawing.specs.declared.keywords.LineCap.TheVariants as line-cap
use Rattle.drawing.specs.declared.keywords.LineJoin.{LineJoin}
use Rattle.drawing.specs.declared.keywords.LineJoin.TheVariants as line-join
use Rattle.drawing.specs.declared.keywords.BlendMode.{BlendMode}
use Rattle.drawing.specs.declared.keywords.BlendMode.TheVariants as blend-mode
use Rattle.drawing.specs.declared.keywords.ShapeRendering.{ShapeRendering}
use Rattle.drawing.specs.declared.keywords.ShapeRendering.TheVariants as shape-rendering
use Rattle.drawing.specs.declared.keywords.TextRendering.{TextRendering}
use Rattle.drawing.specs.declared.keywords.TextRendering.TheVariants as text-rendering
use Rattle.drawing.specs.declared.keywords.ImageRendering.{ImageRendering}
use Rattle.drawing.specs.declared.keywords.ImageRendering.TheVariants as image-rendering
use Rattle.drawing.specs.declared.keywords.WritingMode.{WritingMode}
use Rattle.drawing.specs.declared.keywords.WritingMode.TheVariants as writing-mode
use Rattle.drawing.specs.declared.keywords.TextAnchor.{TextAnchor}
use Rattle.drawing.specs.declared.keywords.TextAnchor.TheVariants as text-anchor
use Rattle.drawing.specs.declared.keywords.FontStyle.{FontStyle}
use Rattle.drawing.specs.declared.keywords.FontStyle.TheVariants as font-style
use Rattle.drawing.specs.declared.keywords.FontStretch.{FontStretch}
use Rattle.drawing.specs.declared.keywords.FontStretch.TheVariants as font-stretch
use Rattle.drawing.specs.declared.keywords.DominantBaseline.{DominantBaseline}
use Rattle.drawing.specs.declared.keywords.DominantBaseline.TheVariants as dominant-baseline
use Rattle.drawing.specs.declared.keywords.AlignmentBaseline.{AlignmentBaseline}
use Rattle.drawing.specs.declared.keywords.AlignmentBaseline.TheVariants as alignment-baseline
use Rattle.drawing.specs.declared.keywords.LengthAdjust.{LengthAdjust}
use Rattle.drawing.specs.declared.keywords.LengthAdjust.TheVariants as length-adjust
use Rattle.drawing.specs.declared.keywords.Units.{Units}
use Rattle.drawing.specs.declared.keywords.Units.TheVariants as units
use Rattle.drawing.specs.declared.keywords.SpreadMethod.{SpreadMethod}
use Rattle.drawing.specs.declared.keywords.SpreadMethod.TheVariants as spread-method

abbrev pub kind_word : Kind → List ℕ
kind_word kind.Group = codes "Group"
kind_word kind.Path = codes "Path"
kind_word kind.Image = codes "Image"
kind_word kind.Text = codes "Text"

abbrev pub kind_cases : List Kind
kind_cases = kind.Group ∷ kind.Path ∷ kind.Image ∷ kind.Text ∷ []

abbrev pub paint_order_word : PaintOrder → List ℕ
paint_order_word paint-order.FillAndStroke = codes "FillAndStroke"
paint_order_word paint-order.StrokeAndFill = codes "StrokeAndFill"

abbrev pub paint_order_cases : List PaintOrder
paint_order_cases = paint-order.FillAndStroke ∷ paint-order.StrokeAndFill ∷ []

abbrev pub fill_rule_word : FillRule → List ℕ
fill_rule_word fill-rule.NonZero = codes "NonZero"
fill_rule_word fill-rule.EvenOdd = codes "EvenOdd"

abbrev pub fill_rule_cases : List FillRule
fill_rule_cases = fill-rule.NonZero ∷ fill-rule.EvenOdd ∷ []

abbrev pub line_cap_word : LineCap → List ℕ
line_cap_word line-cap.Butt = codes "Butt"
line_cap_word line-cap.Round = codes "Round"
line_cap_word line-cap.Square = codes "Square"

abbrev pub line_cap_cases : List LineCap
line_cap_cases = line-cap.Butt ∷ line-cap.Round ∷ line-cap.Square ∷ []

abbrev pub line_join_word : LineJoin → List ℕ
line_join_word line-join.Miter = codes "Miter"
line_join_word line-join.MiterClip = codes "MiterClip"
line_join_word line-join.Round = codes "Round"
line_join_word line-join.Bevel = codes "Bevel"

abbrev pub line_join_cases : List LineJoin
line_join_cases = line-join.Miter ∷ line-join.MiterClip ∷ line-join.Round ∷ line-join.Bevel ∷ []

abbrev pub blend_mode_word : BlendMode → List ℕ
blend_mode_word blend-mode.Normal = codes "Normal"
blend_mode_word blend-mode.Multiply = codes "Multiply"
blend_mode_word blend-mode.Screen = codes "Screen"
blend_mode_word blend-mode.Overlay = codes "Overlay"
blend_mode_word blend-mode.Darken = codes "Darken"
blend_mode_word blend-mode.Lighten = codes "Lighten"
blend_mode_word blend-mode.ColorDodge = codes "ColorDodge"
blend_mode_word blend-mode.ColorBurn = codes "ColorBurn"
blend_mode_word blend-mode.HardLight = codes "HardLight"
blend_mode_word blend-mode.SoftLight = codes "SoftLight"
blend_mode_word blend-mode.Difference = codes "Difference"
blend_mode_word blend-mode.Exclusion = codes "Exclusion"
blend_mode_word blend-mode.Hue = codes "Hue"
blend_mode_word blend-mode.Saturation = codes "Saturation"
blend_mode_word blend-mode.Color = codes "Color"
blend_mode_word blend-mode.Luminosity = codes "Luminosity"
blend_mode_word blend-mode.PlusLighter = codes "PlusLighter"

abbrev pub blend_mode_cases : List BlendMode
blend_mode_cases = blend-mode.Normal ∷ blend-mode.Multiply ∷ blend-mode.Screen ∷ blend-mode.Overlay ∷ blend-mode.Darken ∷ blend-mode.Lighten ∷ blend-mode.ColorDodge ∷ blend-mode.ColorBurn ∷ blend-mode.HardLight ∷ blend-mode.SoftLight ∷ blend-mode.Difference ∷ blend-mode.Exclusion ∷ blend-mode.Hue ∷ blend-mode.Saturation ∷ blend-mode.Color ∷ blend-mode.Luminosity ∷ blend-mode.PlusLighter ∷ []

abbrev pub shape_rendering_word : ShapeRendering → List ℕ
shape_rendering_word shape-rendering.OptimizeSpeed = codes "OptimizeSpeed"
shape_rendering_word shape-rendering.CrispEdges = codes "CrispEdges"
shape_rendering_word shape-rendering.GeometricPrecision = codes "GeometricPrecision"

abbrev pub shape_rendering_cases : List ShapeRendering
shape_rendering_cases = shape-rendering.OptimizeSpeed ∷ shape-rendering.CrispEdges ∷ shape-rendering.GeometricPrecision ∷ []

abbrev pub text_rendering_word : TextRendering → List ℕ
text_rendering_word text-rendering.OptimizeSpeed = codes "OptimizeSpeed"
text_rendering_word text-rendering.OptimizeLegibility = codes "OptimizeLegibility"
text_rendering_word text-rendering.GeometricPrecision = codes "GeometricPrecision"

abbrev pub text_rendering_cases : List TextRendering
text_rendering_cases = text-rendering.OptimizeSpeed ∷ text-rendering.OptimizeLegibility ∷ text-rendering.GeometricPrecision ∷ []

abbrev pub image_rendering_word : ImageRendering → List ℕ
image_rendering_word image-rendering.OptimizeQuality = codes "OptimizeQuality"
image_rendering_word image-rendering.OptimizeSpeed = codes "OptimizeSpeed"
image_rendering_word image-rendering.Smooth = codes "Smooth"
image_rendering_word image-rendering.HighQuality = codes "HighQuality"
image_rendering_word image-rendering.CrispEdges = codes "CrispEdges"
image_rendering_word image-rendering.Pixelated = codes "Pixelated"

abbrev pub image_rendering_cases : List ImageRendering
image_rendering_cases = image-rendering.OptimizeQuality ∷ image-rendering.OptimizeSpeed ∷ image-rendering.Smooth ∷ image-rendering.HighQuality ∷ image-rendering.CrispEdges ∷ image-rendering.Pixelated ∷ []

abbrev pub writing_mode_word : WritingMode → List ℕ
writing_mode_word writing-mode.LeftToRight = codes "LeftToRight"
writing_mode_word writing-mode.TopToBottom = codes "TopToBottom"

abbrev pub writing_mode_cases : List WritingMode
writing_mode_cases = writing-mode.LeftToRight ∷ writing-mode.TopToBottom ∷ []

abbrev pub text_anchor_word : TextAnchor → List ℕ
text_anchor_word text-anchor.Start = codes "Start"
text_anchor_word text-anchor.Middle = codes "Middle"
text_anchor_word text-anchor.End = codes "End"

abbrev pub text_anchor_cases : List TextAnchor
text_anchor_cases = text-anchor.Start ∷ text-anchor.Middle ∷ text-anchor.End ∷ []

abbrev pub font_style_word : FontStyle → List ℕ
font_style_word font-style.Normal = codes "Normal"
font_style_word font-style.Italic = codes "Italic"
font_style_word font-style.Oblique = codes "Oblique"

abbrev pub font_style_cases : List FontStyle
font_style_cases = font-style.Normal ∷ font-style.Italic ∷ font-style.Oblique ∷ []

abbrev pub font_stretch_word : FontStretch → List ℕ
font_stretch_word font-stretch.UltraCondensed = codes "UltraCondensed"
font_stretch_word font-stretch.ExtraCondensed = codes "ExtraCondensed"
font_stretch_word font-stretch.Condensed = codes "Condensed"
font_stretch_word font-stretch.SemiCondensed = codes "SemiCondensed"
font_stretch_word font-stretch.Normal = codes "Normal"
font_stretch_word font-stretch.SemiExpanded = codes "SemiExpanded"
font_stretch_word font-stretch.Expanded = codes "Expanded"
font_stretch_word font-stretch.ExtraExpanded = codes "ExtraExpanded"
font_stretch_word font-stretch.UltraExpanded = codes "UltraExpanded"

abbrev pub font_stretch_cases : List FontStretch
font_stretch_cases = font-stretch.UltraCondensed ∷ font-stretch.ExtraCondensed ∷ font-stretch.Condensed ∷ font-stretch.SemiCondensed ∷ font-stretch.Normal ∷ font-stretch.SemiExpanded ∷ font-stretch.Expanded ∷ font-stretch.ExtraExpanded ∷ font-stretch.UltraExpanded ∷ []

abbrev pub dominant_baseline_word : DominantBaseline → List ℕ
dominant_baseline_word dominant-baseline.Auto = codes "Auto"
dominant_baseline_word dominant-baseline.UseScript = codes "UseScript"
dominant_baseline_word dominant-baseline.NoChange = codes "NoChange"
dominant_baseline_word dominant-baseline.ResetSize = codes "ResetSize"
dominant_baseline_word dominant-baseline.Ideographic = codes "Ideographic"
dominant_baseline_word dominant-baseline.Alphabetic = codes "Alphabetic"
dominant_baseline_word dominant-baseline.Hanging = codes "Hanging"
dominant_baseline_word dominant-baseline.Mathematical = codes "Mathematical"
dominant_baseline_word dominant-baseline.Central = codes "Central"
dominant_baseline_word dominant-baseline.Middle = codes "Middle"
dominant_baseline_word dominant-baseline.TextAfterEdge = codes "TextAfterEdge"
dominant_baseline_word dominant-baseline.TextBeforeEdge = codes "TextBeforeEdge"

abbrev pub dominant_baseline_cases : List DominantBaseline
dominant_baseline_cases = dominant-baseline.Auto ∷ dominant-baseline.UseScript ∷ dominant-baseline.NoChange ∷ dominant-baseline.ResetSize ∷ dominant-baseline.Ideographic ∷ dominant-baseline.Alphabetic ∷ dominant-baseline.Hanging ∷ dominant-baseline.Mathematical ∷ dominant-baseline.Central ∷ dominant-baseline.Middle ∷ dominant-baseline.TextAfterEdge ∷ dominant-baseline.TextBeforeEdge ∷ []

abbrev pub alignment_baseline_word : AlignmentBaseline → List ℕ
alignment_baseline_word alignment-baseline.Auto = codes "Auto"
alignment_baseline_word alignment-baseline.Baseline = codes "Baseline"
alignment_baseline_word alignment-baseline.BeforeEdge = codes "BeforeEdge"
alignment_baseline_word alignment-baseline.TextBeforeEdge = codes "TextBeforeEdge"
alignment_baseline_word alignment-baseline.Middle = codes "Middle"
alignment_baseline_word alignment-baseline.Central = codes "Central"
alignment_baseline_word alignment-baseline.AfterEdge = codes "AfterEdge"
alignment_baseline_word alignment-baseline.TextAfterEdge = codes "TextAfterEdge"
alignment_baseline_word alignment-baseline.Ideographic = codes "Ideographic"
alignment_baseline_word alignment-baseline.Alphabetic = codes "Alphabetic"
alignment_baseline_word alignment-baseline.Hanging = codes "Hanging"
alignment_baseline_word alignment-baseline.Mathematical = codes "Mathematical"

abbrev pub alignment_baseline_cases : List AlignmentBaseline
alignment_baseline_cases = alignment-baseline.Auto ∷ alignment-baseline.Baseline ∷ alignment-baseline.BeforeEdge ∷ alignment-baseline.TextBeforeEdge ∷ alignment-baseline.Middle ∷ alignment-baseline.Central ∷ alignment-baseline.AfterEdge ∷ alignment-baseline.TextAfterEdge ∷ alignment-baseline.Ideographic ∷ alignment-baseline.Alphabetic ∷ alignment-baseline.Hanging ∷ alignment-baseline.Mathematical ∷ []

abbrev pub length_adjust_word : LengthAdjust → List ℕ
length_adjust_word length-adjust.Spacing = codes "Spacing"
length_adjust_word length-adjust.SpacingAndGlyphs = codes "SpacingAndGlyphs"

abbrev pub length_adjust_cases : List LengthAdjust
length_adjust_cases = length-adjust.Spacing ∷ length-adjust.SpacingAndGlyphs ∷ []

abbrev pub units_word : Units → List ℕ
units_word units.UserSpaceOnUse = codes "UserSpaceOnUse"
units_word units.ObjectBoundingBox = codes "ObjectBoundingBox"

abbrev pub units_cases : List Units
units_cases = units.UserSpaceOnUse ∷ units.ObjectBoundingBox ∷ []

abbrev pub spread_method_word : SpreadMethod → List ℕ
spread_method_word spread-method.Pad = codes "Pad"
spread_method_word spread-method.Reflect = codes "Reflect"
spread_method_word spread-method.Repeat = codes "Repeat"

abbrev pub spread_method_cases : List SpreadMethod
spread_method_cases = spread-method.Pad ∷ spread-method.Reflect ∷ spread-method.Repeat ∷ []
