-- A class that has the characters of every escape has how a character of it is written. A return is always escaped.
use Rattle.std.proofs.Common.{◌≡◌, ℕ, Bool, false, T, eqb, List, codes}
use Rattle.markup.specs.declared.quotes.Quote.{Quote}
use Rattle.markup.specs.declared.quotes.Quote.TheVariants.{Double, Single}
use Rattle.markup.specs.Escapes.{quote_mark, escape_value, escape_text}
use Rattle.markup.specs.Characters.{ZeroOrMore}
use Rattle.markup.specs.Checks.{all_in}
use Rattle.markup.proofs.Classes.{test}
use Rattle.markup.proofs.Checks.{all_in_tests}

module _ (class : ℕ → Bool) where
  -- by computing, at a class that is known
  pub record HasEscapes : Type 0 where
    pub amp : T (all_in class (codes "&amp;"))
    pub lt : T (all_in class (codes "&lt;"))
    pub gt : T (all_in class (codes "&gt;"))
    pub quot : T (all_in class (codes "&quot;"))
    pub apos : T (all_in class (codes "&apos;"))
    pub tab : T (all_in class (codes "&#9;"))
    pub feed : T (all_in class (codes "&#10;"))
    pub return : T (all_in class (codes "&#13;"))

  has : (text : List ℕ) → T (all_in class text) → ZeroOrMore class text
  has text = (all_in_tests class text).0

  pub text_in : HasEscapes → (c : ℕ) → (eqb c 13 ≡ false → T (class c)) → ZeroOrMore class (escape_text c)
  text_in h c plainly =
      let P : ℕ → Type 0 = λ v. ZeroOrMore class (escape_text v) in
      test P c 38 (has (codes "&amp;") h.amp) (λ e1.
      test P c 60 (has (codes "&lt;") h.lt) (λ e2.
      test P c 62 (has (codes "&gt;") h.gt) (λ e3.
      test P c 13 (has (codes "&#13;") h.return) (λ e4.
      simp (e1, e2, e3, e4) (plainly e4, tt)))))

  -- those that are looked up after the quote
  later : HasEscapes → (q : Quote) → ZeroOrMore class (escape_value q (quote_mark q)) × ZeroOrMore class (escape_value q 9) × ZeroOrMore class (escape_value q 10) × ZeroOrMore class (escape_value q 13)
  later h Double = (has (codes "&quot;") h.quot, has (codes "&#9;") h.tab, has (codes "&#10;") h.feed, has (codes "&#13;") h.return)
  later h Single = (has (codes "&apos;") h.apos, has (codes "&#9;") h.tab, has (codes "&#10;") h.feed, has (codes "&#13;") h.return)

  pub value_in : HasEscapes → (q : Quote) (c : ℕ) → (eqb c 13 ≡ false → T (class c)) → ZeroOrMore class (escape_value q c)
  value_in h q c plainly =
      let P : ℕ → Type 0 = λ v. ZeroOrMore class (escape_value q v) in
      let k = later h q in
      test P c 38 (has (codes "&amp;") h.amp) (λ e1.
      test P c 60 (has (codes "&lt;") h.lt) (λ e2.
      test P c (quote_mark q) k.0 (λ e3.
      test P c 9 k.1 (λ e4.
      test P c 10 k.2 (λ e5.
      test P c 13 k.3 (λ e6.
      simp (e1, e2, e3, e4, e5, e6) (plainly e6, tt)))))))
