-- The rule for tables.
use Rattle.std.specs.Prelude.{ℕ, zero, suc, ◌+◌, ◌-◌, Bool, true, false, cond, ◌&&◌, List, [], ◌∷◌, length, Some, None, Ok, Err, Option, Result, ◌==◌, nat_le, nat_lt}
use Rattle.std.specs.List.{list_all}
use Rattle.drawing.specs.declared.tables.Kind.{Kind}
use Rattle.drawing.specs.declared.tables.Kind.TheVariants.{Group, Path, Image, Text}
use Rattle.drawing.specs.declared.tables.Node.{Node}
use Rattle.drawing.specs.declared.tables.Drawing.{Drawing}
use Rattle.drawing.specs.Tables.{node_at}
use Rattle.checks.specs.declared.entries.Rule.TheVariants.{Place}
use Rattle.checks.specs.declared.tables.Broken.{Broken}
use Rattle.checks.specs.Verdicts.{accepts}
use Rattle.checks.specs.Entries.{first_at}
use Rattle.checks.specs.Rows.{node_fields, gradient_fields}

-- a node's row is there, and all that it names
abbrev pub row_stands : Drawing → Node → Bool
row_stands d n = accepts (first_at Place (node_fields d n))

abbrev pub is_group : Kind → Bool
is_group Group = true
is_group Path = false
is_group Image = false
is_group Text = false

-- a text's only child: a group that ends where the text ends
abbrev pub lone_group : Node → ℕ → Bool
lone_group n end = is_group n.kind && n.end == end

-- what a node holds: no nodes, or nodes among them groups at most so deep; or it is against the rule
abbrev pub Held : Type 0
Held = Result (Option ℕ) Broken

abbrev pub broken : Held
broken = Err (record {})

-- a group may hold groups that are one less deep; a text's child counts for itself
abbrev pub deeper : ℕ → Held
deeper zero = broken
deeper (suc depth) = Ok (Some depth)

-- what a node of each kind holds between i and its end; `next` is the node after it
abbrev pub held_by : Kind → ℕ → ℕ → ℕ → Node → Held
held_by Group depth i end next = deeper depth
held_by Path depth i end next = cond (end == i + 1) (Ok None) broken
held_by Image depth i end next = cond (end == i + 1) (Ok None) broken
held_by Text depth i end next = cond (nat_lt (i + 1) end && lone_group next end) (Ok (Some depth)) broken

-- it ends after itself and inside the range, and its row is there
abbrev pub sits : Drawing → Node → ℕ → ℕ → Bool
sits d n i to = nat_lt i n.end && (nat_le n.end to && row_stands d n)

unfoldable pub held_at : Drawing → ℕ → ℕ → ℕ → Held
held_at d depth i to =
    cond (sits d (node_at d i) i to) (held_by (node_at d i).kind depth i (node_at d i).end (node_at d (i + 1))) broken

-- its children are right, and so is what follows it
abbrev pub goes_on : Held → (ℕ → Bool) → Bool → Bool
goes_on (Err _) children rest = false
goes_on (Ok None) children rest = rest
goes_on (Ok (Some depth)) children rest = children depth && rest

-- The nodes from i to `to` follow one another and fill the range exactly. The first number bounds how many are looked at.
unfoldable pub tiles : ℕ → Drawing → ℕ → ℕ → ℕ → Bool
tiles zero d depth i to = i == to
tiles (suc f) d depth i to =
    cond (nat_lt i to)
    (goes_on (held_at d depth i to) (λ inner. tiles f d inner (i + 1) (node_at d i).end) (tiles f d depth (node_at d i).end to))
    (i == to)

-- a range has no more nodes than its length
unfoldable pub range_stands : Drawing → ℕ → ℕ → ℕ → Bool
range_stands d depth i to = tiles (to - i) d depth i to

-- ---- the limits

-- of every list but the nodes and the pool, how many entries it has
abbrev pub counts : Drawing → List ℕ
counts d =
    length d.groups.now
    ∷ length d.paths.now
    ∷ length d.images.now
    ∷ length d.texts.now
    ∷ length d.chunks.now
    ∷ length d.spans.now
    ∷ length d.segments.now
    ∷ length d.numbers.now
    ∷ length d.references.now
    ∷ length d.families.now
    ∷ length d.shifts.now
    ∷ length d.gradients.now
    ∷ length d.stops.now
    ∷ []

abbrev pub few : List ℕ → Bool
few counts = list_all (λ n. nat_le n 16384) counts

abbrev pub lists_fit : Drawing → Bool
lists_fit d = nat_le (length d.nodes.now) 4096 && (nat_le (length d.pool.now) 65536 && few (counts d))

-- ---- the rule at a node that is drawn, and at a gradient row

abbrev pub table_stands : Drawing → ℕ → Bool
table_stands d node =
    lists_fit d
    && (nat_lt node (node_at d node).end
    && (nat_le (node_at d node).end (length d.nodes.now)
    && range_stands d 64 node (node_at d node).end))

abbrev pub gradient_stands : Drawing → ℕ → Bool
gradient_stands d row = lists_fit d && accepts (first_at Place (gradient_fields d row))
