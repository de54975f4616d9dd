-- Records of a roll: what each write of a roll does to the image, and that the reader gives back the text.
use Rattle.std.proofs.Common.{◌≡◌, ℕ, zero, suc, ◌+◌, ◌-◌, ◌*◌, ◌%◌, ◌<◌, ◌≤◌, List, [], ◌∷◌, ◌++◌, length, get_or, take, drop, set, sym, refl, ap, ◌∙◌, mod-eq_of_lt, arith, length-append, length-drop, take-append-drop, length-take}
use Rattle.std.proofs.lemmas.List.{take_all, drop_all, take_at, drop_at, take-take, drop-take, drop-drop, take-append-le, drop-append-le, set_at, append_assoc, get_or_append_left, get_or-append_right, get_or-take, get_or-drop, length_push, replicate-append-replicate, length-replicate}
use Rattle.stores.specs.Pages.{zeros}
use Rattle.stores.specs.Rolls.{record_image, roll_image, record_text, roll_text}

pub front_short : (held : List ℕ) → length (take 63 held) ≤ 63
front_short held = rw length-take (omega arith)

pub record_length : (text : List ℕ) → length text ≤ 63 → length (record_image text) ≡ 64
record_length text l = simp (length-append, length-replicate) (omega arith)

pub roll_length : (n : ℕ) (held : List ℕ) → length (roll_image n held) ≡ 64 * n
roll_length zero held = refl
roll_length (suc n) held =
    let rest = roll_length n (drop 63 held) in
    let front = record_length (take 63 held) (front_short held) in
    rw length-append (omega arith)

join : (a b c d : ℕ) → a + b ≡ c + d → zeros a ++ zeros b ≡ zeros c ++ zeros d
join a b c d e = replicate-append-replicate a b 0 ∙ ap zeros e ∙ sym (replicate-append-replicate c d 0)

-- an empty roll is all zeros
pub roll_empty : (n : ℕ) → roll_image n [] ≡ zeros (64 * n)
roll_empty zero = refl
roll_empty (suc n) = (let e : 64 * suc n ≡ 64 + 64 * n = omega arith in rw (e, ← replicate-append-replicate {A = ℕ} 64 (64 * n) 0, roll_empty n))

-- Where a roll's image is cut: its first q records, and those after them.

roll_split : (q m n : ℕ) (held : List ℕ) → n ≡ q + m → roll_image n held ≡ roll_image q held ++ roll_image m (drop (63 * q) held)
roll_split zero m n held l = (let e : n ≡ m = omega arith in rw e)
roll_split (suc q) m zero held l = absurd (omega arith)
roll_split (suc q) m (suc n) held l =
    let e : 63 * suc q ≡ 63 + 63 * q = omega arith in
    let later = roll_image m (drop (63 + 63 * q) held) in
    rw (roll_split q m n (drop 63 held) (omega arith), drop-drop (63 * q) 63 held, e) (sym (append_assoc (record_image (take 63 held)) (roll_image q (drop 63 held)) later))

-- the first q records depend on no later text
roll_take : (q n : ℕ) (held : List ℕ) → 63 * q ≤ n → roll_image q (take n held) ≡ roll_image q held
roll_take zero n held l = refl
roll_take (suc q) n held l =
    let m = n - 63 in
    let e : n ≡ 63 + m = omega arith in
    rw (take-take 63 n held (omega arith), e, drop-take 63 m held, roll_take q m (drop 63 held) (omega arith))

roll_push : (q : ℕ) (held : List ℕ) (byte : ℕ) → 63 * q ≤ length held → roll_image q (held ++ byte ∷ []) ≡ roll_image q held
roll_push q held byte h =
    rw (← roll_take q (63 * q) (held ++ byte ∷ []) (omega arith), ← roll_take q (63 * q) held (omega arith), take-append-le (63 * q) held (byte ∷ []) h)

-- the records from q on, of which there is one at least
later_records : (n q : ℕ) (held : List ℕ) → q < n → roll_image n held ≡ roll_image q held ++ roll_image (suc (n - (q + 1))) (drop (63 * q) held)
later_records n q held l = roll_split q (suc (n - (q + 1))) n held (omega arith)

-- where the text ends in the record after q others
last_record : (n q : ℕ) (held : List ℕ) → q < n → length held ≤ 63 * q + 63 →
    roll_image n held ≡ roll_image q held ++ (record_image (drop (63 * q) held) ++ zeros (64 * (n - (q + 1))))
last_record n q held l f =
    let text = drop (63 * q) held in
    let short : length text ≤ 63 = rw length-drop (omega arith) in
    rw (later_records n q held l, take_all 63 text short, drop_all 63 text short, roll_empty (n - (q + 1)))

-- past the text's last record
roll_rest : (n p : ℕ) (held : List ℕ) → p ≤ n → length held ≤ 63 * p → drop (64 * p) (roll_image n held) ≡ zeros (64 * (n - p))
roll_rest n p held l f =
    let m = n - p in
    rw (roll_split p m n held (omega arith), drop_at (roll_image p held) (roll_image m (drop (63 * p) held)) (64 * p) (roll_length p held), drop_all (63 * p) held f, roll_empty)

-- The writes of a roll, one at a time, where the text has q full records and o bytes in the next: the count goes up over a zero byte, or
-- down from one; the last byte changes.

-- where the text ends with a byte in that record
ended : (n q o byte : ℕ) (held : List ℕ) → length held ≡ 63 * q + o → o < 63 → q < n →
    roll_image n (held ++ byte ∷ []) ≡ roll_image q held ++ (o + 1) ∷ ((drop (63 * q) held ++ byte ∷ zeros (62 - o)) ++ zeros (64 * (n - (q + 1))))
ended n q o byte held e s l =
    let text = drop (63 * q) held in
    let t : length text ≡ o = rw length-drop (omega arith) in
    let g : length (held ++ byte ∷ []) ≤ 63 * q + 63 = rw length_push (omega arith) in
    let h : 63 * q ≤ length held = omega arith in
    let m : 63 - (o + 1) ≡ 62 - o = omega arith in
    rw (last_record n q (held ++ byte ∷ []) l g, roll_push q held byte h, drop-append-le (63 * q) held (byte ∷ []) h, length_push text byte, t, m, append_assoc text (byte ∷ []) (zeros (62 - o)))

-- and where it ends before that byte
ends : (n q o : ℕ) (held : List ℕ) → length held ≡ 63 * q + o → o < 63 → q < n →
    roll_image n held ≡ roll_image q held ++ o ∷ ((drop (63 * q) held ++ 0 ∷ zeros (62 - o)) ++ zeros (64 * (n - (q + 1))))
ends n q o held e s l =
    let text = drop (63 * q) held in
    let t : length text ≡ o = rw length-drop (omega arith) in
    let k : 63 - o ≡ suc (62 - o) = omega arith in
    rw (last_record n q held l (omega arith), t, k)

pub roll_count_up : (n q o : ℕ) (held : List ℕ) → length held ≡ 63 * q + o → o < 63 → q < n →
    set (roll_image n held) (64 * q) (o + 1) ≡ roll_image n (held ++ 0 ∷ [])
roll_count_up n q o held e s l =
    let rest = (drop (63 * q) held ++ 0 ∷ zeros (62 - o)) ++ zeros (64 * (n - (q + 1))) in
    rw (ends n q o held e s l, ended n q o 0 held e s l) (set_at (roll_image q held) o rest (o + 1) (64 * q) (roll_length q held))

pub roll_count_down : (n q o : ℕ) (held : List ℕ) → length held ≡ 63 * q + o → o < 63 → q < n →
    set (roll_image n (held ++ 0 ∷ [])) (64 * q) o ≡ roll_image n held
roll_count_down n q o held e s l =
    let rest = (drop (63 * q) held ++ 0 ∷ zeros (62 - o)) ++ zeros (64 * (n - (q + 1))) in
    rw (ends n q o held e s l, ended n q o 0 held e s l) (set_at (roll_image q held) (o + 1) rest o (64 * q) (roll_length q held))

pub roll_last : (n q o : ℕ) (held : List ℕ) (old new : ℕ) → length held ≡ 63 * q + o → o < 63 → q < n →
    set (roll_image n (held ++ old ∷ [])) (64 * q + (o + 1)) new ≡ roll_image n (held ++ new ∷ [])
roll_last n q o held old new e s l =
    let front = roll_image q held in
    let text = drop (63 * q) held in
    let rest = zeros (62 - o) in
    let all = zeros (64 * (n - (q + 1))) in
    let f = roll_length q held in
    let t : length text ≡ o = rw length-drop (omega arith) in
    let g : length (front ++ (o + 1) ∷ text) ≡ 64 * q + (o + 1) = rw length-append (omega arith) in
    rw (ended n q o old held e s l, ended n q o new held e s l)
    (simp append_assoc (simp append_assoc at (set_at (front ++ (o + 1) ∷ text) old (rest ++ all) new (64 * q + (o + 1)) g)))

-- where the image has the byte at a place of the text
pub image_byte : (n q o : ℕ) (held : List ℕ) → 63 * q + o < length held → q < n → o < 63 →
    get_or (roll_image n held) (64 * q + (o + 1)) 0 ≡ get_or held (63 * q + o) 0
image_byte n q o held e l s =
    let front = roll_image q held in
    let text = drop (63 * q) held in
    let first = take 63 text in
    let rest = zeros (63 - length first) in
    let more = roll_image (n - (q + 1)) (drop 63 text) in
    let t : o < length text = rw length-drop (omega arith) in
    let u : o < length first = rw length-take (omega arith) in
    let i : 64 * q + (o + 1) - 64 * q ≡ suc o = omega arith in
    rw (later_records n q held l, get_or-append_right front (record_image first ++ more) (64 * q) (64 * q + (o + 1)) 0 (roll_length q held) (omega arith), i)
    (get_or_append_left (first ++ rest) more 0 o (rw length-append (omega arith)) ∙ get_or_append_left first rest 0 o u ∙ get_or-take 63 text o 0 s ∙ get_or-drop (63 * q) held o 0)

-- The reader.

record_read : (text : List ℕ) → length text ≤ 63 → record_text (record_image text) ≡ text
record_read text l =
    let n = length text in
    let e : n % 64 ≡ n = mod-eq_of_lt (omega arith) in
    rw (e, take-take n 63 (text ++ zeros (63 - n)) l, take_at text (zeros (63 - n)) n refl)

roll_read : (n : ℕ) (held : List ℕ) → length held ≤ 63 * n → roll_text n (roll_image n held) ≡ held
roll_read zero [] h = refl
roll_read zero (b ∷ held) h = absurd (omega arith)
roll_read (suc n) held h =
    let front = record_image (take 63 held) in
    let rest = roll_image n (drop 63 held) in
    let w = record_length (take 63 held) (front_short held) in
    let m : length (drop 63 held) ≤ 63 * n = rw length-drop (omega arith) in
    ap (λ xs. record_text xs ++ roll_text n (drop 64 (front ++ rest))) (take_at front rest 64 w)
    ∙ rw (drop_at front rest 64 w, record_read (take 63 held) (front_short held), roll_read n (drop 63 held) m, take-append-drop 63 held)

-- only the first n records are read
roll_front : (n : ℕ) (bytes : List ℕ) → roll_text n bytes ≡ roll_text n (take (64 * n) bytes)
roll_front zero bytes = refl
roll_front (suc n) bytes =
    let e : 64 * suc n ≡ 64 + 64 * n = omega arith in
    rw (e, take-take 64 (64 + 64 * n) bytes (omega arith), drop-take 64 (64 * n) bytes, roll_front n (drop 64 bytes))

-- a buffer whose first n records are the image of a text reads as that text
pub image_reads : (n : ℕ) (bytes held : List ℕ) → length held ≤ 63 * n → take (64 * n) bytes ≡ roll_image n held → roll_text n bytes ≡ held
image_reads n bytes held l e = roll_front n bytes ∙ ap (roll_text n) e ∙ roll_read n held l
