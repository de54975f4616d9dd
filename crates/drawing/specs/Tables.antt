-- What stands at a place of a drawing. A row past its list is the empty row, a place past its list is what is left of it.
use Rattle.std.specs.Prelude.{ℕ, true, false, List, take, drop, None, from_bits, slice_index_or, Float}
use Rattle.std.specs.Float.{binary32}
use Rattle.drawing.specs.declared.keywords.PaintOrder.TheVariants.{FillAndStroke}
use Rattle.drawing.specs.declared.keywords.FillRule.TheVariants.{NonZero}
use Rattle.drawing.specs.declared.keywords.LineCap.TheVariants.{Butt}
use Rattle.drawing.specs.declared.keywords.LineJoin.TheVariants.{Miter}
use Rattle.drawing.specs.declared.keywords.BlendMode.TheVariants.{Normal}
use Rattle.drawing.specs.declared.keywords.ShapeRendering.TheVariants.{GeometricPrecision}
use Rattle.drawing.specs.declared.keywords.TextRendering.TheVariants.{OptimizeLegibility}
use Rattle.drawing.specs.declared.keywords.ImageRendering.TheVariants.{OptimizeQuality}
use Rattle.drawing.specs.declared.keywords.WritingMode.TheVariants.{LeftToRight}
use Rattle.drawing.specs.declared.keywords.FontStyle.TheVariants as style
use Rattle.drawing.specs.declared.keywords.FontStretch.TheVariants as stretch
use Rattle.drawing.specs.declared.keywords.DominantBaseline.TheVariants as dominant
use Rattle.drawing.specs.declared.keywords.AlignmentBaseline.TheVariants as alignment
use Rattle.drawing.specs.declared.keywords.LengthAdjust.TheVariants.{Spacing}
use Rattle.drawing.specs.declared.keywords.Units.TheVariants.{ObjectBoundingBox}
use Rattle.drawing.specs.declared.keywords.SpreadMethod.TheVariants.{Pad}
use Rattle.drawing.specs.declared.rows.Place.{Place}
use Rattle.drawing.specs.declared.rows.Transform.{Transform}
use Rattle.drawing.specs.declared.rows.Paint.{Paint}
use Rattle.drawing.specs.declared.rows.Paint.TheVariants as paint
use Rattle.drawing.specs.declared.rows.Fill.{Fill}
use Rattle.drawing.specs.declared.rows.Stroke.{Stroke}
use Rattle.drawing.specs.declared.rows.Group.{Group}
use Rattle.drawing.specs.declared.rows.Path.{Path}
use Rattle.drawing.specs.declared.rows.Image.{Image}
use Rattle.drawing.specs.declared.rows.Text.{Text}
use Rattle.drawing.specs.declared.rows.Font.{Font}
use Rattle.drawing.specs.declared.rows.TextSpan.{TextSpan}
use Rattle.drawing.specs.declared.rows.Stop.{Stop}
use Rattle.drawing.specs.declared.rows.BaseGradient.{BaseGradient}
use Rattle.drawing.specs.declared.tables.Kind.TheVariants as kind
use Rattle.drawing.specs.declared.tables.Node.{Node}
use Rattle.drawing.specs.declared.tables.Drawing.{Drawing}

-- what a place names in a list
abbrev pub entries : {X : Type 0} → List X → Place → List X
entries xs p = take p.count (drop p.start xs)

-- the bytes of a text or an id
abbrev pub pool_part : Drawing → Place → List ℕ
pool_part d p = entries d.pool.now p

-- ---- the empty rows

abbrev pub nowhere : Place
nowhere = record { start = 0; count = 0 }

abbrev pub nought : Float
nought = from_bits binary32 0

abbrev pub one : Float
one = from_bits binary32 0x3F800000

abbrev pub identity : Transform
identity = record { sx = one; ky = nought; kx = nought; sy = one; tx = nought; ty = nought }

abbrev pub no_node : Node
no_node = record { kind = kind.Group; row = 0; end = 0 }

abbrev pub no_group : Group
no_group = record {
  id = nowhere;
  transform = identity;
  opacity = one;
  blend_mode = Normal;
  isolate = false;
  clip_path = None;
  mask = None;
  filters = nowhere;
}

abbrev pub no_path : Path
no_path = record {
  id = nowhere;
  visible = true;
  fill = None;
  stroke = None;
  paint_order = FillAndStroke;
  rendering_mode = GeometricPrecision;
  «data» = nowhere;
}

abbrev pub no_image : Image
no_image = record {
  id = nowhere;
  visible = true;
  width = nought;
  height = nought;
  rendering_mode = OptimizeQuality;
  payload = nowhere;
}

abbrev pub no_text : Text
no_text = record {
  id = nowhere;
  rendering_mode = OptimizeLegibility;
  dx = nowhere;
  dy = nowhere;
  rotate = nowhere;
  writing_mode = LeftToRight;
  chunks = nowhere;
}

abbrev pub no_gradient : BaseGradient
no_gradient = record { units = ObjectBoundingBox; transform = identity; spread_method = Pad; stops = nowhere }

-- ---- what else a row or a part of one is by default

abbrev pub black : Paint
black = paint.Color (record { red = 0; green = 0; blue = 0 })

abbrev pub default_fill : Fill
default_fill = record { paint = black; opacity = one; rule = NonZero }

abbrev pub default_stroke : Stroke
default_stroke = record {
  paint = black;
  dasharray = None;
  dashoffset = nought;
  miterlimit = from_bits binary32 0x40800000;
  opacity = one;
  width = one;
  linecap = Butt;
  linejoin = Miter;
}

abbrev pub default_font : Font
default_font = record { families = nowhere; style = style.Normal; stretch = stretch.Normal; weight = 400 }

abbrev pub default_span : TextSpan
default_span = record {
  start = 0;
  end = 0;
  fill = None;
  stroke = None;
  paint_order = FillAndStroke;
  font = default_font;
  font_size = from_bits binary32 0x41400000;
  small_caps = false;
  apply_kerning = true;
  decoration = record { underline = None; overline = None; line_through = None };
  dominant_baseline = dominant.Auto;
  alignment_baseline = alignment.Auto;
  baseline_shift = nowhere;
  visible = true;
  letter_spacing = nought;
  word_spacing = nought;
  text_length = None;
  length_adjust = Spacing;
}

abbrev pub default_stop : Stop
default_stop = record { offset = nought; color = record { red = 0; green = 0; blue = 0 }; opacity = one }

-- ---- rows by their number

abbrev pub node_at : Drawing → ℕ → Node
node_at d i = slice_index_or d.nodes.now i no_node

abbrev pub group_at : Drawing → ℕ → Group
group_at d row = slice_index_or d.groups.now row no_group

abbrev pub path_at : Drawing → ℕ → Path
path_at d row = slice_index_or d.paths.now row no_path

abbrev pub image_at : Drawing → ℕ → Image
image_at d row = slice_index_or d.images.now row no_image

abbrev pub text_at : Drawing → ℕ → Text
text_at d row = slice_index_or d.texts.now row no_text

abbrev pub gradient_at : Drawing → ℕ → BaseGradient
gradient_at d row = slice_index_or d.gradients.now row no_gradient
