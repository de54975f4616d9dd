-- What the rules want, said of every entry of a drawing, and what a refusal then says.
use Rattle.std.specs.Prelude.{◌≡◌, ℕ, suc, ◌+◌, ◌<◌, ◌≤◌, Bool, true, ◌⊎◌, List, [], ◌∷◌, ◌++◌, length, Some, None, Err, Decides, filter, Option, ◌==◌, slice_index}
use Rattle.std.specs.List.{AllByRecursion}
use Rattle.drawing.specs.declared.names.AId.{AId}
use Rattle.drawing.specs.declared.faults.AttributeFault.{AttributeFault}
use Rattle.drawing.specs.declared.faults.NodeFault.{NodeFault}
use Rattle.drawing.specs.declared.faults.Fault.{Fault}
use Rattle.drawing.specs.declared.faults.Fault.TheVariants as fault
use Rattle.drawing.specs.Faults.{value_number}
use Rattle.drawing.specs.declared.rows.Point.{Point}
use Rattle.drawing.specs.declared.rows.PathSegment.{PathSegment}
use Rattle.drawing.specs.declared.rows.PathSegment.TheVariants.{MoveTo}
use Rattle.drawing.specs.declared.tables.Kind.{Kind}
use Rattle.drawing.specs.declared.tables.Kind.TheVariants as kind
use Rattle.drawing.specs.declared.tables.Drawing.{Drawing}
use Rattle.drawing.specs.Tables.{node_at}
use Rattle.checks.specs.declared.entries.Rule.{Rule}
use Rattle.checks.specs.declared.entries.Rule.TheVariants as rule
use Rattle.checks.specs.Verdicts.{accepts}
use Rattle.checks.specs.Ids.{id_byte}
use Rattle.checks.specs.Numbers.{shown_in, in_range}
use Rattle.checks.specs.Texts.{Text}
use Rattle.checks.specs.Families.{plain_byte}
use Rattle.checks.specs.Entries.{Entry, row_in, place_in, at_most, own_id, referenced_id, not_empty, begins_with_move, number_in, text_of, span_of, family_name, rule_of, rule_number, Fields, none, field, ◌then◌}
use Rattle.checks.specs.Rows.{node_fields, gradient_fields}
use Rattle.checks.specs.Calls.{draw_verdict, gradient_verdict}

-- ---- one entry

-- at most 64 id bytes
abbrev pub Id : List ℕ → Type 0
Id bytes = (length bytes ≤ 64) × AllByRecursion (λ b. id_byte b ≡ true) bytes

-- the end of the bytes, or a byte that does not go on with a character
abbrev pub CharacterBound : List ℕ → ℕ → Type 0
CharacterBound bytes i = (i ≡ length bytes) ⊎ ((i < length bytes) × ((slice_index bytes i < 0x80) ⊎ (0xBF < slice_index bytes i)))

-- the entry keeps its rule
abbrev pub Keeps : Entry → Type 0
Keeps (row_in length row) = row < length
Keeps (place_in length place) = place.start + place.count ≤ length
Keeps (at_most limit count) = count ≤ limit
Keeps (own_id bytes) = Id bytes
Keeps (referenced_id bytes) = (0 < length bytes) × Id bytes
Keeps (not_empty count) = 0 < count
Keeps (begins_with_move segments) = (p : Point) × (others : List PathSegment) × (segments ≡ MoveTo p ∷ others)
Keeps (number_in domain x) = (shown_in domain x ≡ true) × (in_range domain x ≡ true)
Keeps (text_of bytes) = Text bytes
Keeps (span_of bytes start end) = (start ≤ end) × (CharacterBound bytes start × CharacterBound bytes end)
Keeps (family_name bytes) = AllByRecursion (λ b. plain_byte b ≡ true) bytes

-- ---- the entries of a row

pub record Field : Type 0 where
  pub attribute : Option AId
  pub entry : Entry

abbrev pub Kept : Field → Type 0
Kept f = Keeps f.entry

-- all of them, in order
abbrev pub listed : Fields → List Field
listed none = []
listed (field attribute e) = record { attribute = attribute; entry = e } ∷ []
listed (fields then others) = listed fields ++ listed others

abbrev pub has_rule : Rule → Field → Bool
has_rule rule f = rule_number rule == rule_number (rule_of f.entry)

-- those that one rule looks at
abbrev pub tested_by : Rule → Fields → List Field
tested_by rule fields = filter (has_rule rule) (listed fields)

-- those that the rules for values look at, in the order of the tests: by rule, then by field
abbrev pub ordered : Fields → List Field
ordered fields =
    tested_by rule.Id fields
    ++ (tested_by rule.Empty fields
    ++ (tested_by rule.Number fields
    ++ (tested_by rule.Text fields ++ tested_by rule.Family fields)))

-- ---- the nodes

-- a shape of nodes: nothing, or a first one with what it holds, and the shape of those after it
pub data Shape : Type 0 where
  nothing : Shape
  leaf : Shape → Shape
  group : Shape → Shape → Shape
  text : Shape → Shape → Shape

-- groups stand at most so many deep
abbrev pub Shallow : ℕ → Shape → Type 0
Shallow deep nothing = Unit {0}
Shallow deep (leaf others) = Shallow deep others
Shallow deep (group children others) = (inner : ℕ) × ((deep ≡ suc inner) × (Shallow inner children × Shallow deep others))
Shallow deep (text child others) = Shallow deep child × Shallow deep others

abbrev pub IsLeaf : Kind → Type 0
IsLeaf k = (k ≡ kind.Path) ⊎ (k ≡ kind.Image)

-- the nodes from i up to but without `to` have this shape, in preorder
abbrev pub Laid : Drawing → ℕ → ℕ → Shape → Type 0
Laid d i to nothing = i ≡ to
Laid d i to (leaf others) = IsLeaf (node_at d i).kind × (((node_at d i).end ≡ i + 1) × Laid d (i + 1) to others)
Laid d i to (group children others) =
    ((node_at d i).kind ≡ kind.Group)
    × (Laid d (i + 1) (node_at d i).end children × Laid d (node_at d i).end to others)
Laid d i to (text child others) =
    ((node_at d i).kind ≡ kind.Text)
    × ((((node_at d (i + 1)).kind ≡ kind.Group) × ((i + 1 < (node_at d i).end) × ((node_at d (i + 1)).end ≡ (node_at d i).end)))
    × (Laid d (i + 1) (node_at d i).end child × Laid d (node_at d i).end to others))

-- ---- a whole drawing

-- every list is within its limit
pub record Limited (d : Drawing) : Type 0 where
  pub nodes : length d.nodes.now ≤ 4096
  pub groups : length d.groups.now ≤ 16384
  pub paths : length d.paths.now ≤ 16384
  pub images : length d.images.now ≤ 16384
  pub texts : length d.texts.now ≤ 16384
  pub chunks : length d.chunks.now ≤ 16384
  pub spans : length d.spans.now ≤ 16384
  pub segments : length d.segments.now ≤ 16384
  pub numbers : length d.numbers.now ≤ 16384
  pub references : length d.references.now ≤ 16384
  pub families : length d.families.now ≤ 16384
  pub shifts : length d.shifts.now ≤ 16384
  pub gradients : length d.gradients.now ≤ 16384
  pub stops : length d.stops.now ≤ 16384
  pub pool : length d.pool.now ≤ 65536

-- the entries of the node i keep their rules, all of them or some
abbrev pub EntriesAt : (Fields → List Field) → Drawing → ℕ → Type 0
EntriesAt some d i = AllByRecursion Kept (some (node_fields d (node_at d i)))

-- the table rule at a node that is drawn: it and its descendants are a tree in preorder, and rows and places are there
pub record Tabled (d : Drawing) (node : ℕ) : Type 0 where
  pub limited : Limited d
  pub has_end : node < (node_at d node).end
  pub within : (node_at d node).end ≤ length d.nodes.now
  pub shape : Shape
  pub laid : Laid d node (node_at d node).end shape
  pub shallow : Shallow 64 shape
  pub places : (i : ℕ) → node ≤ i → i < (node_at d node).end → EntriesAt (tested_by rule.Place) d i

-- a drawing is sound at a node: its tables are right, and every entry of the node and its descendants keeps its rule
pub record Sound (d : Drawing) (node : ℕ) : Type 0 where
  pub tabled : Tabled d node
  pub entries : (i : ℕ) → node ≤ i → i < (node_at d node).end → EntriesAt listed d i

-- and at a gradient row
abbrev pub GradientTabled : Drawing → ℕ → Type 0
GradientTabled d row = Limited d × AllByRecursion Kept (tested_by rule.Place (gradient_fields d row))

abbrev pub GradientSound : Drawing → ℕ → Type 0
GradientSound d row = Limited d × AllByRecursion Kept (listed (gradient_fields d row))

-- ---- refusals

-- the fault names the first of these fields that breaks its rule
pub record FirstBroken (fields : List Field) (f : AttributeFault) : Type 0 where
  pub earlier : List Field
  pub broken : Field
  pub later : List Field
  pub split : fields ≡ earlier ++ (broken ∷ later)
  pub earlier_kept : AllByRecursion Kept earlier
  pub not_kept : Kept broken → ⊥
  pub rule_is : value_number f.fault ≡ rule_number (rule_of broken.entry)
  pub attribute_is : f.attribute ≡ broken.attribute

-- the fault is in the first node that breaks a rule, at the first field that does, in the order of the tests
pub record FirstNode (d : Drawing) (from to : ℕ) (f : NodeFault) : Type 0 where
  pub index : ℕ
  pub not_before : from ≤ index
  pub not_after : index < to
  pub node_is : f.node ≡ Some index
  pub earlier_kept : (i : ℕ) → from ≤ i → i < index → EntriesAt ordered d i
  pub here : FirstBroken (ordered (node_fields d (node_at d index))) f.fault

-- what a refusal says of a node
abbrev pub Refused : Drawing → ℕ → Fault → Type 0
Refused d node f =
    ((f ≡ fault.Table (Some node)) × (Tabled d node → ⊥))
    ⊎ ((found : NodeFault) × ((f ≡ fault.Value found) × (Tabled d node × FirstNode d node (node_at d node).end found)))

-- and of a gradient row
abbrev pub GradientRefused : Drawing → ℕ → Fault → Type 0
GradientRefused d row f =
    ((f ≡ fault.Table None) × (GradientTabled d row → ⊥))
    ⊎ ((found : AttributeFault)
    × ((f ≡ fault.Value (record { node = None; fault = found }))
    × (GradientTabled d row × FirstBroken (tested_by rule.Number (gradient_fields d row)) found)))

-- ---- the theorems

-- a node is accepted exactly when the drawing is sound there, and otherwise the fault is the first one
abbrev pub DrawStands : Type 0
DrawStands =
    (d : Drawing) (node : ℕ)
    → Decides (accepts (draw_verdict d node)) (Sound d node)
    × ((f : Fault) → draw_verdict d node ≡ Err f → Refused d node f)

abbrev pub GradientStands : Type 0
GradientStands =
    (d : Drawing) (row : ℕ)
    → Decides (accepts (gradient_verdict d row)) (GradientSound d row)
    × ((f : Fault) → gradient_verdict d row ≡ Err f → GradientRefused d row f)
