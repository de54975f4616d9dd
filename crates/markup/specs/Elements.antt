-- An element that may have got content: its name, whether it did, and what ends it.
use Rattle.std.specs.Prelude.{ℕ, Bool, true, false, List, codes}
use Rattle.std.specs.Borrow.{Bor}
use Rattle.markup.specs.declared.tags.Begun.{Begun}
use Rattle.markup.specs.declared.tags.Begun.TheVariants.{Tag, Body}
use Rattle.markup.specs.Tags.{end_tag}

abbrev pub name_of : Begun → Bor (List ℕ)
name_of (Tag tag) = tag.name
name_of (Body body) = body.name

abbrev pub has_content : Begun → Bool
has_content (Tag tag) = false
has_content (Body body) = true

abbrev pub ending : Begun → List ℕ
ending (Tag tag) = codes "/>"
ending (Body body) = end_tag body.name.now
