-- The fields of a page, after a write into its buffer.
use Rattle.std.proofs.Common.{◌≡◌, ℕ, suc, ◌+◌, ◌-◌, ◌<◌, ◌≤◌, List, [], ◌∷◌, ◌++◌, length, get_or, take, set, sym, ap, ◌∙◌, arith, length-set, length-take}
use Rattle.std.proofs.lemmas.List.{drop_more, drop-set-lt, drop-drop, take-take, get_or-take, get_or-append_right, length_push}
use Rattle.stores.specs.Seen.{front}
use Rattle.stores.specs.Pages.{IsPage}

pub page_put : (size len byte : ℕ) (buffer : List ℕ) → IsPage size len buffer → len < size → IsPage size (len + 1) (set buffer len byte)
page_put size len byte buffer is l =
    let s = is.sized in
    let n = size - (len + 1) in
    let e : size - len ≡ suc n = omega arith in
    record {
      sized = rw length-set s;
      fits = omega arith;
      blank = rw (drop-set-lt (len + 1) buffer len byte (omega arith), drop-set-lt size buffer len byte l, ← drop-drop 1 len buffer, is.blank, e);
    }

-- the last byte cleared
pub page_clear : (size len last : ℕ) (buffer : List ℕ) → IsPage size len buffer → len ≡ last + 1 → IsPage size len (set buffer last 0)
page_clear size len last buffer is e =
    let s = is.sized in
    let f = is.fits in
    record {
      sized = rw length-set s;
      fits = f;
      blank = rw (drop-set-lt len buffer last 0 (omega arith), drop-set-lt size buffer last 0 (omega arith), is.blank);
    }

-- a zero byte at the end of the bytes held
page_last : (len last : ℕ) (buffer : List ℕ) → len ≡ last + 1 → len ≤ length buffer → take len buffer ≡ front (take len buffer) ++ 0 ∷ [] → get_or buffer last 0 ≡ 0
page_last len last buffer e l zero =
    let k : length (take len buffer) - 1 ≡ last = rw length-take (omega arith) in
    let few : length (take last buffer) ≡ last = rw length-take (omega arith) in
    let but : front (take len buffer) ≡ take last buffer = rw (k, take-take last len buffer (omega arith)) in
    let here : last - last ≡ 0 = omega arith in
    sym (get_or-take len buffer last 0 (omega arith))
    ∙ ap (λ xs. get_or xs last 0) (zero ∙ ap (λ xs. xs ++ 0 ∷ []) but)
    ∙ get_or-append_right (take last buffer) (0 ∷ []) last last 0 few (omega arith)
    ∙ ap (λ i. get_or (0 ∷ []) i 0) here

-- is no longer counted
pub page_drop : (size len : ℕ) (buffer : List ℕ) → IsPage size len buffer → take len buffer ≡ front (take len buffer) ++ 0 ∷ [] → IsPage size (len - 1) buffer
page_drop size len buffer is zero =
    let s = is.sized in
    let f = is.fits in
    let last = len - 1 in
    let held : length (take len buffer) ≡ len = rw length-take (omega arith) in
    let some = ap length zero ∙ length_push (front (take len buffer)) 0 in
    let e : len ≡ last + 1 = omega arith in
    let k : size - last ≡ suc (size - len) = omega arith in
    record {
      sized = s;
      fits = omega arith;
      blank = rw (drop_more buffer last 0 (omega arith), page_last len last buffer e (omega arith) zero, ← e, is.blank, k);
    }
