-- The fields of a roll: what a buffer that holds an image says of them, and each write into it.
use Rattle.std.proofs.Common.{◌≡◌, ℕ, ◌+◌, ◌-◌, ◌*◌, ◌/◌, ◌%◌, ◌<◌, ◌≤◌, List, [], ◌∷◌, ◌++◌, length, get_or, take, drop, set, sym, ap, ◌∙◌, arith, length-set, length-append, length-take, length-drop}
use Rattle.std.proofs.lemmas.List.{length_push, take_all, take_more, take_at, drop_at, get_or-take, length-replicate, drop-set-lt}
use Rattle.std.proofs.Math.Seq.{take-set-lt}
use Rattle.stores.specs.Reach.{reach}
use Rattle.stores.specs.Seen.{seen_with, front}
use Rattle.stores.specs.Pages.{zeros}
use Rattle.stores.specs.Rolls.{roll_image, roll_text, IsRoll}
use Rattle.stores.proofs.Records.{image_reads, roll_count_up, roll_count_down, roll_last, image_byte, roll_empty}

-- the fields of a roll whose text is `held`, over a buffer that was `old`
pub record Rolled (n len : ℕ) (old buffer held : List ℕ) : Type 0 where
  pub is : IsRoll n len buffer
  pub reads : roll_text n buffer ≡ held
  pub beyond : drop (64 * n) buffer ≡ drop (64 * n) old

rolled : (n len : ℕ) (old buffer held : List ℕ) → n ≡ reach old / 64 → length buffer ≡ length old → len ≡ length held → len ≤ 63 * n →
    take (64 * n) buffer ≡ roll_image n held → drop (64 * n) buffer ≡ drop (64 * n) old → Rolled n len old buffer held
rolled n len old buffer held s m c l e b =
    let r = image_reads n buffer held (omega arith) e in
    record { is = record { sized = omega arith; laid = rw r e; counted = rw r c; fits = l }; reads = r; beyond = b }

pub rolled_new : (n : ℕ) (old buffer : List ℕ) → n ≡ reach old / 64 → buffer ≡ zeros (64 * n) ++ drop (64 * n) old → Rolled n 0 old buffer []
rolled_new n old buffer s e =
    let z : length (zeros (64 * n)) ≡ 64 * n = length-replicate (64 * n) 0 in
    rolled n 0 old buffer [] s (rw (e, length-append, length-replicate, length-drop) (omega arith)) (omega arith) (omega arith)
    (rw (e, roll_empty) (take_at (zeros (64 * n)) (drop (64 * n) old) (64 * n) z))
    (rw e (drop_at (zeros (64 * n)) (drop (64 * n) old) (64 * n) z))

-- first the count, over a zero byte
pub count_up : (n len i : ℕ) (buffer : List ℕ) → IsRoll n len buffer → len < 63 * n → i ≡ 64 * (len / 63) →
    Rolled n (len + 1) buffer (set buffer i (len % 63 + 1)) (roll_text n buffer ++ 0 ∷ [])
count_up n len i buffer is l at =
    let held = roll_text n buffer in
    let c = is.counted in
    let image : set (roll_image n held) i (len % 63 + 1) ≡ roll_image n (held ++ 0 ∷ []) =
    rw at (roll_count_up n (len / 63) (len % 63) held (omega arith) (omega arith) (omega arith))
    in
    rolled n (len + 1) buffer (set buffer i (len % 63 + 1)) (held ++ 0 ∷ []) is.sized (length-set buffer i (len % 63 + 1)) (rw length_push (omega arith)) (omega arith)
    (rw (take-set-lt (64 * n) buffer i (len % 63 + 1) (omega arith), is.laid) image)
    (drop-set-lt (64 * n) buffer i (len % 63 + 1) (omega arith))

-- a text from all but its last byte, and that byte
pub without_last : (held : List ℕ) → 0 < length held → held ≡ front held ++ get_or held (length held - 1) 0 ∷ []
without_last held l =
    let last = length held - 1 in
    sym (take_all (last + 1) held (omega arith)) ∙ take_more held last 0 (omega arith)

-- the last byte becomes another one
pub last_byte : (n len j byte : ℕ) (buffer : List ℕ) → IsRoll n len buffer → 0 < len → j ≡ 64 * ((len - 1) / 63) + ((len - 1) % 63 + 1) →
    Rolled n len buffer (set buffer j byte) (front (roll_text n buffer) ++ byte ∷ [])
last_byte n len j byte buffer is l at =
    let held = roll_text n buffer in
    let last = len - 1 in
    let c = is.counted in
    let f = is.fits in
    let few : length (front held) ≡ last = rw length-take (omega arith) in
    let image : set (roll_image n held) j byte ≡ roll_image n (front held ++ byte ∷ []) =
    rw at (ap (λ text. set (roll_image n text) (64 * (last / 63) + (last % 63 + 1)) byte) (without_last held (omega arith)) ∙ roll_last n (last / 63) (last % 63) (front held) (get_or held (length held - 1) 0) byte (omega arith) (omega arith) (omega arith))
    in
    rolled n len buffer (set buffer j byte) (front held ++ byte ∷ []) is.sized (length-set buffer j byte) (rw length_push (omega arith)) f
    (rw (take-set-lt (64 * n) buffer j byte (omega arith), is.laid) image)
    (drop-set-lt (64 * n) buffer j byte (omega arith))

-- a zero byte at the end is no longer counted
pub count_down : (n len i : ℕ) (buffer : List ℕ) → IsRoll n len buffer → roll_text n buffer ≡ front (roll_text n buffer) ++ 0 ∷ [] → i ≡ 64 * ((len - 1) / 63) →
    Rolled n (len - 1) buffer (set buffer i ((len - 1) % 63)) (front (roll_text n buffer))
count_down n len i buffer is zero at =
    let held = roll_text n buffer in
    let last = len - 1 in
    let c = is.counted in
    let f = is.fits in
    let some = ap length zero ∙ length_push (front held) 0 in
    let few : length (front held) ≡ last = rw length-take (omega arith) in
    let image : set (roll_image n held) i (last % 63) ≡ roll_image n (front held) =
    rw at (ap (λ text. set (roll_image n text) (64 * (last / 63)) (last % 63)) zero ∙ roll_count_down n (last / 63) (last % 63) (front held) (omega arith) (omega arith) (omega arith))
    in
    rolled n last buffer (set buffer i (last % 63)) (front held) is.sized (length-set buffer i (last % 63)) (omega arith) (omega arith)
    (rw (take-set-lt (64 * n) buffer i (last % 63) (omega arith), is.laid) image)
    (drop-set-lt (64 * n) buffer i (last % 63) (omega arith))

-- what callers see of a write
pub seen : (n was len : ℕ) (old buffer held : List ℕ) → IsRoll n was old → Rolled n len old buffer held →
    record { held = roll_text n buffer; room = 63 * n - len; beyond = drop (64 * n) buffer } ≡
    seen_with (record { held = roll_text n old; room = 63 * n - was; beyond = drop (64 * n) old }) held
seen n was len old buffer held is new =
    let c = is.counted in
    let f = is.fits in
    let count = new.is.counted ∙ ap length new.reads in
    let room : 63 * n - len ≡ length (roll_text n old) + (63 * n - was) - length held = omega arith in
    rw (new.reads, new.beyond, room)

pub rolled_byte : (n len place j : ℕ) (buffer : List ℕ) → IsRoll n len buffer → place < len → j ≡ 64 * (place / 63) + (place % 63 + 1) →
    get_or buffer j 0 ≡ get_or (roll_text n buffer) place 0
rolled_byte n len place j buffer is l e =
    let held = roll_text n buffer in
    let c = is.counted in
    let f = is.fits in
    let whole : 63 * (place / 63) + place % 63 ≡ place = omega arith in
    rw (← get_or-take (64 * n) buffer j 0 (omega arith), is.laid, e)
    (image_byte n (place / 63) (place % 63) held (omega arith) (omega arith) (omega arith) ∙ ap (λ k. get_or held k 0) whole)

-- the records, by the size
pub rolled_records : (n len : ℕ) (buffer : List ℕ) → IsRoll n len buffer →
    take (64 * n) buffer ≡ roll_image ((length (roll_text n buffer) + (63 * n - len)) / 63) (roll_text n buffer)
rolled_records n len buffer is =
    let c = is.counted in
    let f = is.fits in
    let e : (length (roll_text n buffer) + (63 * n - len)) / 63 ≡ n = omega arith in
    rw e is.laid
