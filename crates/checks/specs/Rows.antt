-- The entries of each kind of row, in the order in which they are tested.
use Rattle.std.specs.Prelude.{ℕ, List, length, Some, None, Option, Float}
use Rattle.drawing.specs.declared.names.AId.{AId}
use Rattle.drawing.specs.declared.names.AId.TheVariants as attribute
use Rattle.drawing.specs.declared.rows.Place.{Place}
use Rattle.drawing.specs.declared.rows.Transform.{Transform}
use Rattle.drawing.specs.declared.rows.Paint.{Paint}
use Rattle.drawing.specs.declared.rows.Paint.TheVariants.{Color, LinearGradient, RadialGradient, Pattern}
use Rattle.drawing.specs.declared.rows.Fill.{Fill}
use Rattle.drawing.specs.declared.rows.Stroke.{Stroke}
use Rattle.drawing.specs.declared.rows.Group.{Group}
use Rattle.drawing.specs.declared.rows.Point.{Point}
use Rattle.drawing.specs.declared.rows.PathSegment.{PathSegment}
use Rattle.drawing.specs.declared.rows.PathSegment.TheVariants.{MoveTo, LineTo, QuadTo, CubicTo, Close}
use Rattle.drawing.specs.declared.rows.Path.{Path}
use Rattle.drawing.specs.declared.rows.Image.{Image}
use Rattle.drawing.specs.declared.rows.Text.{Text}
use Rattle.drawing.specs.declared.rows.TextFlow.{TextFlow}
use Rattle.drawing.specs.declared.rows.TextFlow.TheVariants as flow
use Rattle.drawing.specs.declared.rows.TextChunk.{TextChunk}
use Rattle.drawing.specs.declared.rows.FontFamily.{FontFamily}
use Rattle.drawing.specs.declared.rows.FontFamily.TheVariants.{Serif, SansSerif, Cursive, Fantasy, Monospace, Named}
use Rattle.drawing.specs.declared.rows.TextDecorationStyle.{TextDecorationStyle}
use Rattle.drawing.specs.declared.rows.BaselineShift.{BaselineShift}
use Rattle.drawing.specs.declared.rows.BaselineShift.TheVariants as shift
use Rattle.drawing.specs.declared.rows.TextSpan.{TextSpan}
use Rattle.drawing.specs.declared.rows.Stop.{Stop}
use Rattle.drawing.specs.declared.rows.BaseGradient.{BaseGradient}
use Rattle.drawing.specs.declared.tables.Kind.{Kind}
use Rattle.drawing.specs.declared.tables.Kind.TheVariants as kind
use Rattle.drawing.specs.declared.tables.Node.{Node}
use Rattle.drawing.specs.declared.tables.Drawing.{Drawing}
use Rattle.drawing.specs.Tables.{entries, pool_part, group_at, path_at, image_at, text_at, gradient_at}
use Rattle.checks.specs.declared.numbers.Domain.{Domain}
use Rattle.checks.specs.declared.numbers.Domain.TheVariants.{Rounded, Bare, Fraction, AboveZero, AtLeastOne, AtLeastZero}
use Rattle.checks.specs.Entries.{Fields, none, field, ◌then◌, each, row_in, place_in, at_most, own_id, referenced_id, not_empty, begins_with_move, number_in, text_of, span_of, family_name}

-- ---- what rows have in common

abbrev pub number_field : AId → Domain → Float → Fields
number_field name domain x = field (Some name) (number_in domain x)

abbrev pub number_if_any : AId → Domain → Option Float → Fields
number_if_any name domain (Some x) = number_field name domain x
number_if_any name domain None = none

-- a place in the pool
abbrev pub pool_fields : Drawing → Place → Fields
pool_fields d p = field None (place_in (length d.pool.now) p)

abbrev pub id_fields : Drawing → Place → Fields
id_fields d p = pool_fields d p then field (Some attribute.Id) (own_id (pool_part d p))

abbrev pub reference_fields : Drawing → AId → Place → Fields
reference_fields d name p = pool_fields d p then field (Some name) (referenced_id (pool_part d p))

abbrev pub reference_if_any : Drawing → AId → Option Place → Fields
reference_if_any d name (Some p) = reference_fields d name p
reference_if_any d name None = none

abbrev pub text_fields : Drawing → Option AId → Place → Fields
text_fields d name p = pool_fields d p then field name (text_of (pool_part d p))

abbrev pub each_number : AId → Domain → List Float → Fields
each_number name domain xs = each (number_field name domain) xs

abbrev pub number_list : Drawing → AId → Domain → Place → Fields
number_list d name domain p =
    field None (place_in (length d.numbers.now) p)
    then each_number name domain (entries d.numbers.now p)

abbrev pub transform_fields : AId → Transform → Fields
transform_fields name t =
    number_field name Rounded t.sx
    then number_field name Rounded t.ky
    then number_field name Rounded t.kx
    then number_field name Rounded t.sy
    then number_field name Rounded t.tx
    then number_field name Rounded t.ty

-- ---- paints

abbrev pub paint_fields : Drawing → AId → Paint → Fields
paint_fields d name (Color color) = none
paint_fields d name (LinearGradient p) = reference_fields d name p
paint_fields d name (RadialGradient p) = reference_fields d name p
paint_fields d name (Pattern p) = reference_fields d name p

abbrev pub fill_fields : Drawing → Option Fill → Fields
fill_fields d None = none
fill_fields d (Some f) =
    paint_fields d attribute.Fill f.paint
    then number_field attribute.FillOpacity Fraction f.opacity

abbrev pub dash_fields : Drawing → Option Place → Fields
dash_fields d None = none
dash_fields d (Some p) =
    field (Some attribute.StrokeDasharray) (not_empty p.count)
    then number_list d attribute.StrokeDasharray AtLeastZero p

abbrev pub stroke_fields : Drawing → Option Stroke → Fields
stroke_fields d None = none
stroke_fields d (Some s) =
    paint_fields d attribute.Stroke s.paint
    then dash_fields d s.dasharray
    then number_field attribute.StrokeDashoffset Bare s.dashoffset
    then number_field attribute.StrokeMiterlimit AtLeastOne s.miterlimit
    then number_field attribute.StrokeOpacity Fraction s.opacity
    then number_field attribute.StrokeWidth AboveZero s.width

-- ---- groups, paths, images

abbrev pub filter_fields : Drawing → List Place → Fields
filter_fields d places = each (reference_fields d attribute.Filter) places

abbrev pub group_fields : Drawing → Group → Fields
group_fields d g =
    id_fields d g.id
    then transform_fields attribute.Transform g.transform
    then number_field attribute.Opacity Fraction g.opacity
    then reference_if_any d attribute.ClipPath g.clip_path
    then reference_if_any d attribute.Mask g.mask
    then field None (place_in (length d.references.now) g.filters)
    then filter_fields d (entries d.references.now g.filters)

abbrev pub point_fields : Point → Fields
point_fields p = number_field attribute.D Rounded p.x then number_field attribute.D Rounded p.y

abbrev pub segment_fields : PathSegment → Fields
segment_fields (MoveTo p) = point_fields p
segment_fields (LineTo p) = point_fields p
segment_fields (QuadTo p q) = point_fields p then point_fields q
segment_fields (CubicTo p q r) = point_fields p then point_fields q then point_fields r
segment_fields Close = none

abbrev pub each_segment : List PathSegment → Fields
each_segment segments = each segment_fields segments

abbrev pub path_fields : Drawing → Path → Fields
path_fields d p =
    id_fields d p.id
    then fill_fields d p.fill
    then stroke_fields d p.stroke
    then field None (place_in (length d.segments.now) p.«data»)
    then field (Some attribute.D) (begins_with_move (entries d.segments.now p.«data»))
    then each_segment (entries d.segments.now p.«data»)

abbrev pub image_fields : Drawing → Image → Fields
image_fields d i =
    id_fields d i.id
    then number_field attribute.Width AboveZero i.width
    then number_field attribute.Height AboveZero i.height
    then text_fields d (Some attribute.Href) i.payload

-- ---- texts

abbrev pub family_fields : Drawing → FontFamily → Fields
family_fields d Serif = none
family_fields d SansSerif = none
family_fields d Cursive = none
family_fields d Fantasy = none
family_fields d Monospace = none
family_fields d (Named p) =
    field (Some attribute.FontFamily) (not_empty p.count)
    then text_fields d (Some attribute.FontFamily) p
    then field (Some attribute.FontFamily) (family_name (pool_part d p))

abbrev pub each_family : Drawing → List FontFamily → Fields
each_family d families = each (family_fields d) families

abbrev pub families_fields : Drawing → Place → Fields
families_fields d p =
    field None (at_most 64 p.count)
    then field None (place_in (length d.families.now) p)
    then each_family d (entries d.families.now p)

abbrev pub decoration_fields : Drawing → Option TextDecorationStyle → Fields
decoration_fields d None = none
decoration_fields d (Some s) = fill_fields d s.fill then stroke_fields d s.stroke

abbrev pub shift_fields : BaselineShift → Fields
shift_fields shift.Baseline = none
shift_fields shift.Subscript = none
shift_fields shift.Superscript = none
shift_fields (shift.Number x) = number_field attribute.BaselineShift Bare x

abbrev pub each_shift : List BaselineShift → Fields
each_shift shifts = each shift_fields shifts

abbrev pub shifts_fields : Drawing → Place → Fields
shifts_fields d p =
    field None (at_most 64 p.count)
    then field None (place_in (length d.shifts.now) p)
    then each_shift (entries d.shifts.now p)

-- a span of a chunk that has this text
abbrev pub span_fields : Drawing → List ℕ → TextSpan → Fields
span_fields d bytes s =
    field None (span_of bytes s.start s.end)
    then fill_fields d s.fill
    then stroke_fields d s.stroke
    then families_fields d s.font.families
    then number_field attribute.FontSize AboveZero s.font_size
    then decoration_fields d s.decoration.underline
    then decoration_fields d s.decoration.overline
    then decoration_fields d s.decoration.line_through
    then shifts_fields d s.baseline_shift
    then number_field attribute.LetterSpacing Bare s.letter_spacing
    then number_field attribute.WordSpacing Bare s.word_spacing
    then number_if_any attribute.TextLength AtLeastZero s.text_length

abbrev pub each_span : Drawing → List ℕ → List TextSpan → Fields
each_span d bytes spans = each (span_fields d bytes) spans

abbrev pub flow_fields : Drawing → TextFlow → Fields
flow_fields d flow.Linear = none
flow_fields d (flow.Path p) =
    reference_fields d attribute.Href p.id
    then number_field attribute.StartOffset Bare p.start_offset

abbrev pub chunk_fields : Drawing → TextChunk → Fields
chunk_fields d c =
    number_if_any attribute.X Bare c.x
    then number_if_any attribute.Y Bare c.y
    then field None (at_most 256 c.spans.count)
    then field None (place_in (length d.spans.now) c.spans)
    then each_span d (pool_part d c.text) (entries d.spans.now c.spans)
    then flow_fields d c.text_flow
    then text_fields d None c.text

abbrev pub each_chunk : Drawing → List TextChunk → Fields
each_chunk d chunks = each (chunk_fields d) chunks

abbrev pub text_row_fields : Drawing → Text → Fields
text_row_fields d t =
    id_fields d t.id
    then number_list d attribute.Dx Bare t.dx
    then number_list d attribute.Dy Bare t.dy
    then number_list d attribute.Rotate Bare t.rotate
    then field None (place_in (length d.chunks.now) t.chunks)
    then each_chunk d (entries d.chunks.now t.chunks)

-- ---- nodes and gradients

abbrev pub kind_fields : Drawing → Kind → ℕ → Fields
kind_fields d kind.Group row = field None (row_in (length d.groups.now) row) then group_fields d (group_at d row)
kind_fields d kind.Path row = field None (row_in (length d.paths.now) row) then path_fields d (path_at d row)
kind_fields d kind.Image row = field None (row_in (length d.images.now) row) then image_fields d (image_at d row)
kind_fields d kind.Text row = field None (row_in (length d.texts.now) row) then text_row_fields d (text_at d row)

abbrev pub node_fields : Drawing → Node → Fields
node_fields d n = kind_fields d n.kind n.row

abbrev pub stop_fields : Stop → Fields
stop_fields s = number_field attribute.Offset Fraction s.offset then number_field attribute.StopOpacity Fraction s.opacity

abbrev pub each_stop : List Stop → Fields
each_stop stops = each stop_fields stops

abbrev pub base_gradient_fields : Drawing → BaseGradient → Fields
base_gradient_fields d g =
    transform_fields attribute.GradientTransform g.transform
    then field None (place_in (length d.stops.now) g.stops)
    then each_stop (entries d.stops.now g.stops)

abbrev pub gradient_fields : Drawing → ℕ → Fields
gradient_fields d row = field None (row_in (length d.gradients.now) row) then base_gradient_fields d (gradient_at d row)
