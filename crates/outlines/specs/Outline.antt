-- The outline of a node: the elements that its rows mean, every field given and nothing left out. It is defined from the rows
-- alone. Ids have the call's prefix before them; an empty id is none.
use Rattle.std.specs.Prelude.{ℕ, zero, suc, ◌+◌, ◌-◌, cond, List, [], ◌∷◌, ◌++◌, take, drop, Some, None, codes, Option, ◌==◌, nat_lt, Float}
use Rattle.std.specs.Str.{chars}
use Rattle.markup.specs.Trees.{Forest, empty, element, characters, followed_by}
use Rattle.drawing.specs.declared.options.WriteOptions.{WriteOptions}
use Rattle.drawing.specs.declared.rows.Place.{Place}
use Rattle.drawing.specs.declared.rows.Transform.{Transform}
use Rattle.drawing.specs.declared.rows.Paint.{Paint}
use Rattle.drawing.specs.declared.rows.Paint.TheVariants.{Color, LinearGradient, RadialGradient, Pattern}
use Rattle.drawing.specs.declared.rows.Fill.{Fill}
use Rattle.drawing.specs.declared.rows.Stroke.{Stroke}
use Rattle.drawing.specs.declared.rows.Group.{Group}
use Rattle.drawing.specs.declared.rows.Point.{Point}
use Rattle.drawing.specs.declared.rows.PathSegment.{PathSegment}
use Rattle.drawing.specs.declared.rows.PathSegment.TheVariants.{MoveTo, LineTo, QuadTo, CubicTo, Close}
use Rattle.drawing.specs.declared.rows.Path.{Path}
use Rattle.drawing.specs.declared.rows.Image.{Image}
use Rattle.drawing.specs.declared.rows.Text.{Text}
use Rattle.drawing.specs.declared.rows.TextFlow.{TextFlow}
use Rattle.drawing.specs.declared.rows.TextFlow.TheVariants as flow
use Rattle.drawing.specs.declared.rows.TextChunk.{TextChunk}
use Rattle.drawing.specs.declared.rows.FontFamily.{FontFamily}
use Rattle.drawing.specs.declared.rows.FontFamily.TheVariants.{Serif, SansSerif, Cursive, Fantasy, Monospace, Named}
use Rattle.drawing.specs.declared.rows.TextDecorationStyle.{TextDecorationStyle}
use Rattle.drawing.specs.declared.rows.BaselineShift.{BaselineShift}
use Rattle.drawing.specs.declared.rows.BaselineShift.TheVariants as shift
use Rattle.drawing.specs.declared.rows.TextSpan.{TextSpan}
use Rattle.drawing.specs.declared.rows.Stop.{Stop}
use Rattle.drawing.specs.declared.rows.BaseGradient.{BaseGradient}
use Rattle.drawing.specs.declared.tables.Kind.{Kind}
use Rattle.drawing.specs.declared.tables.Kind.TheVariants as kind
use Rattle.drawing.specs.declared.tables.Drawing.{Drawing}
use Rattle.drawing.specs.Options.{prefix_of}
use Rattle.drawing.specs.Tables.{entries, pool_part, node_at, group_at, path_at, image_at, text_at}
use Rattle.svg.specs.Values.{Value, none, number, weight, numbers, offsets, keyword, color, reference, references, matrix, families, path, text, Family, serif, sans_serif, cursive, fantasy, monospace, named, Command, GivenNumber, bare, rounded, over}
use Rattle.svg.specs.Cascade.{Given}
use Rattle.outlines.specs.Meanings.{order_means, rule_means, cap_means, join_means, blend_means, shape_rendering_means, text_rendering_means, image_rendering_means, writing_means, anchor_means, style_means, stretch_means, dominant_means, alignment_means, adjust_means, units_means, spread_means, visibility_means, isolation_means, variant_means, kerning_means}

abbrev pub Outline : Type 0
Outline = Forest (Given GivenNumber)

-- ---- values

-- the id with the call's prefix
abbrev pub prefixed : WriteOptions → Drawing → Place → List ℕ
prefixed o d p = prefix_of o ++ pool_part d p

abbrev pub own_id : WriteOptions → List ℕ → Value GivenNumber
own_id o [] = none
own_id o (b ∷ bytes) = text (prefix_of o ++ (b ∷ bytes))

abbrev pub number_or_none : Option Float → Value GivenNumber
number_or_none None = none
number_or_none (Some x) = number (bare x)

abbrev pub reference_or_none : WriteOptions → Drawing → Option Place → Value GivenNumber
reference_or_none o d None = none
reference_or_none o d (Some p) = reference (prefixed o d p)

abbrev pub references_or_none : WriteOptions → Drawing → List Place → Value GivenNumber
references_or_none o d [] = none
references_or_none o d (p ∷ places) = references (over (prefixed o d) (p ∷ places))

abbrev pub matrix_of : WriteOptions → Transform → Value GivenNumber
matrix_of o t =
    let at = rounded o.transforms_precision in
    matrix (at t.sx) (at t.ky) (at t.kx) (at t.sy) (at t.tx) (at t.ty)

abbrev pub paint_of : WriteOptions → Drawing → Paint → Value GivenNumber
paint_of o d (Color c) = color c.red c.green c.blue
paint_of o d (LinearGradient p) = reference (prefixed o d p)
paint_of o d (RadialGradient p) = reference (prefixed o d p)
paint_of o d (Pattern p) = reference (prefixed o d p)

abbrev pub numbers_of : Drawing → Place → List GivenNumber
numbers_of d p = over bare (entries d.numbers.now p)

abbrev pub dashes_or_none : Drawing → Option Place → Value GivenNumber
dashes_or_none d None = none
dashes_or_none d (Some p) = numbers (numbers_of d p)

-- a link: `#id` is an element of this document, anything else leaves it
abbrev pub link_means : List ℕ → Value GivenNumber
link_means [] = text []
link_means (c ∷ cs) = cond (c == 35) (reference cs) (text (c ∷ cs))

-- ---- fills and strokes: a missing one gives the paint none, and nothing else

abbrev pub fill_given : WriteOptions → Drawing → Option Fill → Given GivenNumber
fill_given o d None = (codes "fill", none) ∷ []
fill_given o d (Some f) =
    (codes "fill", paint_of o d f.paint)
    ∷ (codes "fill-opacity", number (bare f.opacity))
    ∷ (codes "fill-rule", keyword (rule_means f.rule))
    ∷ []

abbrev pub stroke_given : WriteOptions → Drawing → Option Stroke → Given GivenNumber
stroke_given o d None = (codes "stroke", none) ∷ []
stroke_given o d (Some s) =
    (codes "stroke", paint_of o d s.paint)
    ∷ (codes "stroke-opacity", number (bare s.opacity))
    ∷ (codes "stroke-dashoffset", number (bare s.dashoffset))
    ∷ (codes "stroke-miterlimit", number (bare s.miterlimit))
    ∷ (codes "stroke-width", number (bare s.width))
    ∷ (codes "stroke-linecap", keyword (cap_means s.linecap))
    ∷ (codes "stroke-linejoin", keyword (join_means s.linejoin))
    ∷ (codes "stroke-dasharray", dashes_or_none d s.dasharray)
    ∷ []

-- ---- groups, paths, images

abbrev pub group_given : WriteOptions → Drawing → Group → Given GivenNumber
group_given o d g =
    (codes "id", own_id o (pool_part d g.id))
    ∷ (codes "clip-path", reference_or_none o d g.clip_path)
    ∷ (codes "mask", reference_or_none o d g.mask)
    ∷ (codes "filter", references_or_none o d (entries d.references.now g.filters))
    ∷ (codes "opacity", number (bare g.opacity))
    ∷ (codes "transform", matrix_of o g.transform)
    ∷ (codes "mix-blend-mode", keyword (blend_means g.blend_mode))
    ∷ (codes "isolation", keyword (isolation_means g.isolate))
    ∷ []

-- a segment's command and coordinates; all are absolute
abbrev pub command : List ℕ → List GivenNumber → Command GivenNumber
command [] coordinates = record { letter = 0; numbers = coordinates }
command (c ∷ cs) coordinates = record { letter = c; numbers = coordinates }

abbrev pub point_of : ℕ → Point → List GivenNumber → List GivenNumber
point_of precision p more = rounded precision p.x ∷ rounded precision p.y ∷ more

abbrev pub command_of : ℕ → PathSegment → Command GivenNumber
command_of precision (MoveTo p) = command (codes "M") (point_of precision p [])
command_of precision (LineTo p) = command (codes "L") (point_of precision p [])
command_of precision (QuadTo p q) = command (codes "Q") (point_of precision p (point_of precision q []))
command_of precision (CubicTo p q r) = command (codes "C") (point_of precision p (point_of precision q (point_of precision r [])))
command_of precision Close = command (codes "Z") []

abbrev pub path_given : WriteOptions → Drawing → Path → Given GivenNumber
path_given o d p =
    (codes "id", own_id o (pool_part d p.id))
    ∷ (fill_given o d p.fill
    ++ (stroke_given o d p.stroke
    ++ ((codes "visibility", keyword (visibility_means p.visible))
    ∷ (codes "paint-order", keyword (order_means p.paint_order))
    ∷ (codes "shape-rendering", keyword (shape_rendering_means p.rendering_mode))
    ∷ (codes "d", path (over (command_of o.coordinates_precision) (entries d.segments.now p.«data»)))
    ∷ [])))

abbrev pub image_given : WriteOptions → Drawing → Image → Given GivenNumber
image_given o d i =
    (codes "id", own_id o (pool_part d i.id))
    ∷ (codes "width", number (bare i.width))
    ∷ (codes "height", number (bare i.height))
    ∷ (codes "visibility", keyword (visibility_means i.visible))
    ∷ (codes "image-rendering", keyword (image_rendering_means i.rendering_mode))
    ∷ (codes "xlink:href", link_means (chars (pool_part d i.payload)))
    ∷ []

-- ---- spans

abbrev pub family_of : Drawing → FontFamily → Family
family_of d Serif = serif
family_of d SansSerif = sans_serif
family_of d Cursive = cursive
family_of d Fantasy = fantasy
family_of d Monospace = monospace
family_of d (Named p) = named (chars (pool_part d p))

abbrev pub families_or_none : Drawing → List FontFamily → Value GivenNumber
families_or_none d [] = none
families_or_none d (f ∷ fs) = families (over (family_of d) (f ∷ fs))

abbrev pub span_given : WriteOptions → Drawing → TextSpan → Given GivenNumber
span_given o d s =
    (codes "font-family", families_or_none d (entries d.families.now s.font.families))
    ∷ (codes "font-style", keyword (style_means s.font.style))
    ∷ (codes "font-weight", weight s.font.weight)
    ∷ (codes "font-stretch", keyword (stretch_means s.font.stretch))
    ∷ (codes "font-size", number (bare s.font_size))
    ∷ (codes "visibility", keyword (visibility_means s.visible))
    ∷ (codes "letter-spacing", number (bare s.letter_spacing))
    ∷ (codes "word-spacing", number (bare s.word_spacing))
    ∷ (codes "textLength", number_or_none s.text_length)
    ∷ (codes "lengthAdjust", keyword (adjust_means s.length_adjust))
    ∷ (codes "font-variant", keyword (variant_means s.small_caps))
    ∷ (codes "paint-order", keyword (order_means s.paint_order))
    ∷ (codes "font-kerning", keyword (kerning_means s.apply_kerning))
    ∷ (codes "dominant-baseline", keyword (dominant_means s.dominant_baseline))
    ∷ (codes "alignment-baseline", keyword (alignment_means s.alignment_baseline))
    ∷ (fill_given o d s.fill ++ stroke_given o d s.stroke)

abbrev pub shift_of : BaselineShift → Value GivenNumber
shift_of shift.Baseline = keyword (codes "baseline")
shift_of shift.Subscript = keyword (codes "sub")
shift_of shift.Superscript = keyword (codes "super")
shift_of (shift.Number x) = number (bare x)

abbrev pub tspan : Given GivenNumber → Outline → Outline
tspan given children = element (codes "tspan") given children empty

-- shifts stand one inside the other, around the span's characters
abbrev pub shifts_around : List BaselineShift → Outline → Outline
shifts_around [] inside = inside
shifts_around (s ∷ shifts) inside = tspan ((codes "baseline-shift", shift_of s) ∷ []) (shifts_around shifts inside)

-- the characters of a chunk's text from a span's start to its end
abbrev pub span_characters : List ℕ → TextSpan → List ℕ
span_characters bytes s = chars (take (s.end - s.start) (drop s.start bytes))

abbrev pub span_outline : WriteOptions → Drawing → List ℕ → TextSpan → Outline
span_outline o d bytes s =
    tspan (span_given o d s)
    (shifts_around (entries d.shifts.now s.baseline_shift) (characters (span_characters bytes s) empty))

-- a decoration stands around the span, if there is one
abbrev pub decoration_around : WriteOptions → Drawing → List ℕ → Option TextDecorationStyle → Outline → Outline
decoration_around o d line None inside = inside
decoration_around o d line (Some style) inside =
    tspan ((codes "text-decoration", keyword line) ∷ (fill_given o d style.fill ++ stroke_given o d style.stroke)) inside

abbrev pub decorated_outline : WriteOptions → Drawing → List ℕ → TextSpan → Outline
decorated_outline o d bytes s =
    decoration_around o d (codes "underline") s.decoration.underline
    (decoration_around o d (codes "line-through") s.decoration.line_through
    (decoration_around o d (codes "overline") s.decoration.overline
    (span_outline o d bytes s)))

abbrev pub span_outlines : WriteOptions → Drawing → List ℕ → List TextSpan → Outline
span_outlines o d bytes [] = empty
span_outlines o d bytes (s ∷ spans) = followed_by (decorated_outline o d bytes s) (span_outlines o d bytes spans)

-- ---- texts

abbrev pub chunk_given : TextChunk → Given GivenNumber
chunk_given c =
    (codes "x", number_or_none c.x)
    ∷ (codes "y", number_or_none c.y)
    ∷ (codes "text-anchor", keyword (anchor_means c.anchor))
    ∷ []

abbrev pub chunk_outline : WriteOptions → Drawing → TextChunk → Outline
chunk_outline o d c = tspan (chunk_given c) (span_outlines o d (pool_part d c.text) (entries d.spans.now c.spans))

-- a chunk stands in its text path, if it has one
abbrev pub flow_around : WriteOptions → Drawing → TextFlow → Outline → Outline
flow_around o d flow.Linear inside = inside
flow_around o d (flow.Path p) inside =
    element (codes "textPath")
    ((codes "xlink:href", reference (prefixed o d p.id)) ∷ (codes "startOffset", number (bare p.start_offset)) ∷ [])
    inside empty

abbrev pub chunk_outlines : WriteOptions → Drawing → List TextChunk → Outline
chunk_outlines o d [] = empty
chunk_outlines o d (c ∷ chunks) = followed_by (flow_around o d c.text_flow (chunk_outline o d c)) (chunk_outlines o d chunks)

abbrev pub text_given : WriteOptions → Drawing → Text → Given GivenNumber
text_given o d t =
    (codes "id", own_id o (pool_part d t.id))
    ∷ (codes "xml:space", keyword (codes "preserve"))
    ∷ (codes "writing-mode", keyword (writing_means t.writing_mode))
    ∷ (codes "text-rendering", keyword (text_rendering_means t.rendering_mode))
    ∷ (codes "rotate", offsets (numbers_of d t.rotate))
    ∷ (codes "dx", offsets (numbers_of d t.dx))
    ∷ (codes "dy", offsets (numbers_of d t.dy))
    ∷ []

abbrev pub text_outline : WriteOptions → Drawing → Text → Outline
text_outline o d t = element (codes "text") (text_given o d t) (chunk_outlines o d (entries d.chunks.now t.chunks)) empty

-- ---- nodes

abbrev pub group_outline : WriteOptions → Drawing → ℕ → Outline → Outline
group_outline o d row children = element (codes "g") (group_given o d (group_at d row)) children empty

-- a node at i of this kind and row; `inside` is the outlines of the nodes between two numbers. A text is a text element, or
-- the outline of its flattened group, the node after it
abbrev pub kind_outline : WriteOptions → Drawing → Kind → ℕ → ℕ → (ℕ → ℕ → Outline) → Outline
kind_outline o d kind.Group row i inside = group_outline o d row (inside (i + 1) (node_at d i).end)
kind_outline o d kind.Path row i inside = element (codes "path") (path_given o d (path_at d row)) empty empty
kind_outline o d kind.Image row i inside = element (codes "image") (image_given o d (image_at d row)) empty empty
kind_outline o d kind.Text row i inside =
    cond o.preserve_text
    (text_outline o d (text_at d row))
    (group_outline o d (node_at d (i + 1)).row (inside (i + 2) (node_at d i).end))

-- the nodes from i up to but without `to`, one after the other, each with its descendants; at most `bound` are looked at
unfoldable pub outlines_in : ℕ → WriteOptions → Drawing → ℕ → ℕ → Outline
outlines_in zero o d i to = empty
outlines_in (suc bound) o d i to =
    cond (nat_lt i to)
    (followed_by (kind_outline o d (node_at d i).kind (node_at d i).row i (outlines_in bound o d)) (outlines_in bound o d (node_at d i).end to))
    empty

-- the outline of one node: no range inside it has more nodes than the table
unfoldable pub outline : WriteOptions → Drawing → ℕ → Outline
outline o d i = kind_outline o d (node_at d i).kind (node_at d i).row i (outlines_in ((node_at d i).end - i) o d)

-- ---- gradients: what a row gives an opened gradient element, and its stops

abbrev pub gradient_given : WriteOptions → BaseGradient → Given GivenNumber
gradient_given o g =
    (codes "gradientUnits", keyword (units_means g.units))
    ∷ (codes "gradientTransform", matrix_of o g.transform)
    ∷ (codes "spreadMethod", keyword (spread_means g.spread_method))
    ∷ []

abbrev pub stop_given : Stop → Given GivenNumber
stop_given s =
    (codes "offset", number (bare s.offset))
    ∷ (codes "stop-color", color s.color.red s.color.green s.color.blue)
    ∷ (codes "stop-opacity", number (bare s.opacity))
    ∷ []

abbrev pub stop_outlines : List Stop → Outline
stop_outlines [] = empty
stop_outlines (s ∷ stops) = element (codes "stop") (stop_given s) empty (stop_outlines stops)
