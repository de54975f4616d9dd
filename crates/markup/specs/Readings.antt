-- What bytes read as, by XML 1.0, and the theorem: whatever is rendered reads back, and in one way only.
use Rattle.std.specs.Prelude.{◌≡◌, ℕ, Bool, true, false, cond, ◌&&◌, List, [], ◌∷◌, ◌++◌, ◌==◌}
use Rattle.std.proofs.Math.Utf8.{encodes, scalars}
use Rattle.markup.specs.Trees.{Written, Read, plain, WellFormed}
use Rattle.markup.specs.Renderings.{written}
use Rattle.markup.specs.Content.{Content, yield, ContentStands, meaning}

-- 2.11 End-of-Line Handling: a carriage return and a line feed after it, and a carriage return alone, read as one line
-- feed; the flag says that a carriage return stood just before
abbrev pub line_character : Bool → ℕ → List ℕ
line_character after-return c = cond (c == 0xD) (0xA ∷ []) (cond (after-return && c == 0xA) [] (c ∷ []))

abbrev pub normal_line_ends : Bool → List ℕ → List ℕ
normal_line_ends after-return [] = []
normal_line_ends after-return (c ∷ cs) = line_character after-return c ++ normal_line_ends (c == 0xD) cs

-- Bytes read as a forest where they are the UTF-8 of a text which, with its line ends normalized, is well-formed content
-- of that meaning. (A byte order mark at the very beginning of a file is no part of its content.)
pub record Reading (bytes : List ℕ) (meant : Read) : Type 0 where
  pub text : List ℕ
  pub unicode : scalars text ≡ true
  pub utf8 : encodes text ≡ bytes
  pub content : Content
  pub spells : yield content [] ≡ normal_line_ends false text
  pub stands : ContentStands content
  pub means : meaning content ≡ meant

-- no bytes read in two ways
abbrev pub OneMeaning : Type 0
OneMeaning = (bytes : List ℕ) (one other : Read) → Reading bytes one → Reading bytes other → one ≡ other

-- these bytes read as this forest, and as no other
pub record ReadsOnlyAs (bytes : List ℕ) (meant : Read) : Type 0 where
  pub reads : Reading bytes meant
  pub only : (other : Read) → Reading bytes other → other ≡ meant

abbrev pub ReadsBack : Type 0
ReadsBack = (forest : Written) → WellFormed forest → ReadsOnlyAs (written forest) (plain forest)
