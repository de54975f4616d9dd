-- How the bytes of a value or of a text are written. A byte of a character above U+007F is never escaped, so the same
-- definitions serve bytes and characters.
use Rattle.std.specs.Prelude.{ℕ, cond, List, [], ◌∷◌, ◌++◌, codes, ◌==◌}
use Rattle.markup.specs.declared.quotes.Quote.{Quote}
use Rattle.markup.specs.declared.quotes.Quote.TheVariants.{Double, Single}
use Rattle.markup.specs.Pens.{PenState, after}

-- the quote around a value, and what stands for it inside
abbrev pub quote_mark : Quote → ℕ
quote_mark Double = 34
quote_mark Single = 39

abbrev pub quote_entity : Quote → List ℕ
quote_entity Double = codes "&quot;"
quote_entity Single = codes "&apos;"

-- in values: & < and the quote in use; tab, line feed and carriage return
abbrev pub escape_value : Quote → ℕ → List ℕ
escape_value q c =
    cond (c == 38) (codes "&amp;")
    (cond (c == 60) (codes "&lt;")
    (cond (c == quote_mark q) (quote_entity q)
    (cond (c == 9) (codes "&#9;")
    (cond (c == 10) (codes "&#10;")
    (cond (c == 13) (codes "&#13;") (c ∷ []))))))

-- in text: & < > and carriage return
abbrev pub escape_text : ℕ → List ℕ
escape_text c =
    cond (c == 38) (codes "&amp;")
    (cond (c == 60) (codes "&lt;")
    (cond (c == 62) (codes "&gt;")
    (cond (c == 13) (codes "&#13;") (c ∷ []))))

-- a whole text, followed by what comes after
abbrev pub escaped_then : (ℕ → List ℕ) → List ℕ → List ℕ → List ℕ
escaped_then escape [] rest = rest
escaped_then escape (c ∷ cs) rest = escape c ++ escaped_then escape cs rest

-- of a value, and between tags
abbrev pub value_then : Quote → List ℕ → List ℕ → List ℕ
value_then q = escaped_then (escape_value q)

abbrev pub text_then : List ℕ → List ℕ → List ℕ
text_then = escaped_then escape_text

-- a pen after a whole text; shut, so that a goal has the text and not its bytes
unfoldable pub after_escaped : PenState → (ℕ → List ℕ) → List ℕ → PenState
after_escaped s escape text = after s (escaped_then escape text [])
