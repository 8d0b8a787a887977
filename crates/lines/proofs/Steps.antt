-- One turn of each loop over a line.
use Rattle.std.proofs.Common.{◌≡◌, ℕ, suc, ◌+◌, ◌*◌, ◌/◌, ◌%◌, ◌<◌, ◌≤◌, List, [], ◌∷◌, ◌++◌, length, map, get_or, take, drop, set, sym, refl, ap, ◌∙◌, arith, length-set}
use Rattle.std.specs.Simd.{first_chunks}
use Rattle.std.proofs.lemmas.List.{map-append, append_assoc, take-append-drop, take_all, take_more, take_more_set, drop-set-lt, at_drop_more, at_drop_all, drop-drop, append-nil}
use Rattle.lines.specs.Digits.{digit_of, line_of, two_digits, bytes_in, value_of}

-- the two digits of one more byte
two_more : (out : List ℕ) (i x y : ℕ) → 2 * i + 1 < length out → take (2 * (i + 1)) (set (set out (2 * i) x) (2 * i + 1) y) ≡ take (2 * i) out ++ x ∷ y ∷ []
two_more out i x y h =
    let n : 2 * (i + 1) ≡ 2 * i + 1 + 1 = omega arith in
    let l = length-set out (2 * i) x in
    let a = take_more_set (set out (2 * i) x) (2 * i + 1) y (omega arith) in
    let b = take_more_set out (2 * i) x (omega arith) in
    let c = append_assoc (take (2 * i) out) (x ∷ []) (y ∷ []) in
    ap (λ z. take z (set (set out (2 * i) x) (2 * i + 1) y)) n ∙ a ∙ ap (λ z. z ++ y ∷ []) b ∙ c

module _ (bs was out : List ℕ) (i : ℕ) (h : i < length bs) (room : 2 * length bs ≤ length out) where
  pub line_more : (x y : ℕ) → x ≡ digit_of (get_or bs i 0 / 16) → y ≡ digit_of (get_or bs i 0 % 16) →
      (take (2 * i) out ++ line_of (drop i bs) ≡ line_of bs) × (drop (2 * i) out ≡ drop (2 * i) was) →
      (take (2 * (i + 1)) (set (set out (2 * i) x) (2 * i + 1) y) ++ line_of (drop (i + 1) bs) ≡ line_of bs)
      × (drop (2 * (i + 1)) (set (set out (2 * i) x) (2 * i + 1) y) ≡ drop (2 * (i + 1)) was)
  line_more x y high low inv = (
    ap (λ z. z ++ rest) (two_more out i x y (omega arith) ∙ ap (λ z. take (2 * i) out ++ z) (cc))
        ∙ append_assoc (take (2 * i) out) (two_digits (get_or bs i 0)) rest
        ∙ ap (λ z. take (2 * i) out ++ z) (sym (at_drop_more line_of bs i 0 h)) ∙ inv.0,
    drop-set-lt (2 * (i + 1)) (set out (2 * i) x) (2 * i + 1) y (omega arith) ∙ drop-set-lt (2 * (i + 1)) out (2 * i) x (omega arith) ∙ past inv.1,
  )
    where
      rest : List ℕ
      rest = line_of (drop (i + 1) bs)

      past : drop (2 * i) out ≡ drop (2 * i) was → drop (2 * (i + 1)) out ≡ drop (2 * (i + 1)) was
      past e = let n : 2 * i + 2 ≡ 2 * (i + 1) = omega arith in
          ap (λ z. drop z out) (sym n) ∙ sym (drop-drop 2 (2 * i) out) ∙ ap (drop 2) e ∙ drop-drop 2 (2 * i) was ∙ ap (λ z. drop z was) n

-- the byte whose digits are two characters
abbrev pub byte_of : List ℕ → ℕ
byte_of pair = 16 * value_of (get_or pair 0 0) + value_of (get_or pair 1 0)

-- one more byte
pub byte_more : (pairs : List (List ℕ)) (was out : List ℕ) (i x : ℕ) → i < length pairs → i < length out → x ≡ byte_of (get_or pairs i []) →
    (take i out ≡ map byte_of (take i pairs)) × (drop i out ≡ drop i was) →
    (take (i + 1) (set out i x) ≡ map byte_of (take (i + 1) pairs)) × (drop (i + 1) (set out i x) ≡ drop (i + 1) was)
byte_more pairs was out i x h room is inv = (
  take_more_set out i x room ∙ (λ k. inv.0 k ++ is k ∷ []) ∙ sym (map-append byte_of (take i pairs) (get_or pairs i [] ∷ []))
      ∙ ap (map byte_of) (sym (take_more pairs i [] h)),
  drop-set-lt (i + 1) out i x (omega arith) ∙ sym (drop-drop 1 i out) ∙ ap (drop 1) inv.1 ∙ drop-drop 1 i was,
)

-- the bytes of a line are those of its pairs
bytes_of_pairs : (cs : List ℕ) → map byte_of (first_chunks 2 (length cs / 2) cs) ≡ bytes_in cs
bytes_of_pairs [] = refl
bytes_of_pairs (c ∷ []) = refl
bytes_of_pairs (c ∷ d ∷ cs) =
    let n : length (c ∷ d ∷ cs) / 2 ≡ suc (length cs / 2) = omega arith in
    ap (λ z. map byte_of (first_chunks 2 z (c ∷ d ∷ cs))) n ∙ ap (λ z. (16 * value_of c + value_of d) ∷ z) (bytes_of_pairs cs)

pub bytes_all : (cs was out : List ℕ) (pairs : List (List ℕ)) (i : ℕ) → pairs ≡ first_chunks 2 (length cs / 2) cs → length pairs ≤ i → i ≡ length cs / 2 →
    (take i out ≡ map byte_of (take i pairs)) × (drop i out ≡ drop i was) →
    (out ≡ bytes_in cs ++ drop (length cs / 2) was) × (take (length cs / 2) out ≡ bytes_in cs)
bytes_all cs was out pairs i q all n inv =
    let front = inv.0 ∙ ap (map byte_of) (take_all i pairs all ∙ q) ∙ bytes_of_pairs cs in
    (sym (take-append-drop i out) ∙ (λ k. front k ++ inv.1 k) ∙ ap (λ z. bytes_in cs ++ drop z was) n, ap (λ z. take z out) (sym n) ∙ front)

pub line_all : (bs was out : List ℕ) (i : ℕ) → i ≡ length bs → 2 * i ≤ length out →
    (take (2 * i) out ++ line_of (drop i bs) ≡ line_of bs) × (drop (2 * i) out ≡ drop (2 * i) was) →
    (out ≡ line_of bs ++ drop (2 * length bs) was) × (take (2 * length bs) out ≡ line_of bs)
line_all bs was out i n h inv =
    let e = sym (append-nil (take (2 * i) out)) ∙ ap (λ z. take (2 * i) out ++ z) (sym (at_drop_all line_of bs i (omega arith))) ∙ inv.0 in
    (sym (take-append-drop (2 * i) out) ∙ ap (λ z. z ++ drop (2 * i) out) e ∙ ap (λ z. line_of bs ++ z) (inv.1 ∙ ap (λ z. drop (2 * z) was) n), ap (λ z. take (2 * z) out) (sym n) ∙ e)
