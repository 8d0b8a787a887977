-- What is written as a line reads back, and what is read was written.
use Rattle.std.proofs.Common.{◌≡◌, ℕ, suc, ◌+◌, ◌*◌, ◌/◌, ◌%◌, ◌<◌, ◌≤◌, Bool, true, false, cond, eqb, ltb, ◌≢◌, List, [], ◌∷◌, length, is_some, Some, None, Ok, Err, Result, unwrap_or, sym, refl, ap, ◌∙◌, subst, inl, inr, arith}
use Rattle.std.specs.List.{AllByRecursion}
use Rattle.std.proofs.lemmas.Bool.Decides.{nat_tests}
use Rattle.std.proofs.lemmas.Bool.{cond-true, cond-false, or_from, or_parts, ltb-false, eqb-false, le-ltb, ne_eqb, cases_Bool}
use Rattle.frames.specs.declared.FrameFault.{FrameFault}
use Rattle.frames.specs.declared.plan.Plan.{Plan}
use Rattle.frames.specs.Contents.{Content, Lawful, bytes_of}
use Rattle.frames.specs.Contents.Content.{order, token}
use Rattle.frames.specs.Reading.{read_as}
use Rattle.frames.proofs.Written as written
use Rattle.frames.proofs.Back as frame
use Rattle.frames.proofs.Room.{fits}
use Rattle.lines.specs.declared.LineFault.{LineFault}
use Rattle.lines.specs.declared.LineFault.TheVariants as fault
use Rattle.lines.specs.Digits.{digit_of, digit_value, is_digit, value_of, line_of, bytes_in, digits_end}
use Rattle.lines.specs.Reads.{frame_room, line_room, bad_line, refused_or, line_bytes, line_as, carried, then_by}

-- Digits

value_of_digit : (v : ℕ) → v < 16 → digit_value (digit_of v) ≡ Some v
value_of_digit v h = grind (arith, nat_tests)

digit_of_value : (c : ℕ) → is_digit c ≡ true → digit_of (value_of c) ≡ c
digit_of_value c d = grind (arith, nat_tests)

value_small : (c : ℕ) → value_of c < 16
value_small c = grind (arith, nat_tests)

-- Lines of bytes

line_length : (bs : List ℕ) → length (line_of bs) ≡ 2 * length bs
line_length [] = refl
line_length (b ∷ bs) = let ih = line_length bs in omega arith

line_digits : (bs : List ℕ) → AllByRecursion (λ b. b < 256) bs → digits_end (line_of bs) ≡ length (line_of bs)
line_digits [] a = refl
line_digits (b ∷ bs) a =
    let small = a.0 in
    let high = ap is_some (value_of_digit (b / 16) (omega arith)) in
    let low = ap is_some (value_of_digit (b % 16) (omega arith)) in
    let ih = line_digits bs a.1 in
    cond-true _ _ _ high ∙ ap (λ z. 1 + z) (cond-true _ _ _ low) ∙ ap (λ z. 1 + (1 + z)) ih ∙ omega arith

line_held : (bs : List ℕ) → AllByRecursion (λ b. b < 256) bs → bytes_in (line_of bs) ≡ bs
line_held [] a = refl
line_held (b ∷ bs) a =
    let small = a.0 in
    let high = ap (λ o. unwrap_or o 0) (value_of_digit (b / 16) (omega arith)) in
    let low = ap (λ o. unwrap_or o 0) (value_of_digit (b % 16) (omega arith)) in
    let byte : 16 * value_of (digit_of (b / 16)) + value_of (digit_of (b % 16)) ≡ b = omega arith in
    let ih = line_held bs a.1 in
    cc

-- Bytes of lines

held_small : (cs : List ℕ) → AllByRecursion (λ b. b < 256) (bytes_in cs)
held_small [] = tt
held_small (c ∷ []) = tt
held_small (c ∷ d ∷ cs) = (omega (arith, value_small c, value_small d), held_small cs)

-- a line is all digits if its first character is one and the rest are
all_digits : (c : ℕ) (cs : List ℕ) → suc (length cs) ≤ digits_end (c ∷ cs) → (is_digit c ≡ true) × (length cs ≤ digits_end cs)
all_digits c cs e = elim (cases_Bool (is_digit c)) [
  | inl y ↦ (y, let t = cond-true {A = ℕ} (is_digit c) (1 + digits_end cs) 0 y in omega arith)
  | inr n ↦ absurd (let t = cond-false {A = ℕ} (is_digit c) (1 + digits_end cs) 0 n in omega arith)
]

held_line : (cs : List ℕ) → length cs ≤ digits_end cs → length cs % 2 ≢ 1 → line_of (bytes_in cs) ≡ cs
held_line [] e h = refl
held_line (c ∷ []) e h = absurd (h refl)
held_line (c ∷ d ∷ cs) e h =
    let first = all_digits c (d ∷ cs) e in
    let second = all_digits d cs first.1 in
    let high : (16 * value_of c + value_of d) / 16 ≡ value_of c = omega (arith, value_small d) in
    let low : (16 * value_of c + value_of d) % 16 ≡ value_of d = omega (arith, value_small d) in
    let c-is = digit_of_value c first.0 in
    let d_is = digit_of_value d second.0 in
    let ih = held_line cs second.1 (λ o. h (omega arith)) in
    cc

-- The laws of lines and bytes

-- a line that is read has no fault
read_good : (bad : Bool) (e : LineFault) (bs cs : List ℕ) → refused_or (cond bad (Some e) None) bs ≡ Ok cs → (bad ≡ false) × (bs ≡ cs)
read_good true e bs cs q = let z : ◌≡◌ {A = ℕ} 0 1 = cc in absurd (omega arith)
read_good false e bs cs q = (refl, cc)

good_reads : (cs : List ℕ) → bad_line cs ≡ false → line_bytes cs ≡ Ok (bytes_in cs)
good_reads cs g = ap (λ z. refused_or z (bytes_in cs)) (cond-false _ _ _ g)

pub reads_back : (bs : List ℕ) → AllByRecursion (λ b. b < 256) bs → 0 < length bs → length bs ≤ frame_room → line_bytes (line_of bs) ≡ Ok bs
reads_back bs a some few =
    let n = line_length bs in
    let d = line_digits bs a in
    let filled : length (line_of bs) ≢ 0 = λ e. omega arith in
    let even : length (line_of bs) % 2 ≢ 1 = λ e. omega arith in
    let good : bad_line (line_of bs) ≡ false =
    or_from _ _ (le-ltb _ _ (omega arith)) (or_from _ _ (ne_eqb _ _ filled) (or_from _ _ (ne_eqb _ _ even) (le-ltb _ _ (omega arith)))) in
    good_reads (line_of bs) good ∙ ap Ok (line_held bs a)

-- a line without a fault
pub record Good (cs : List ℕ) : Type 0 where
  pub digits : length cs ≤ digits_end cs
  pub even : length cs % 2 ≢ 1
  pub few : length cs ≤ line_room

pub good_line : (cs bs : List ℕ) → line_bytes cs ≡ Ok bs → Good cs × (bytes_in cs ≡ bs)
good_line cs bs q =
    let r = read_good (bad_line cs) (fault.Line (digits_end cs)) (bytes_in cs) bs q in
    let first = or_parts (ltb (digits_end cs) (length cs)) _ r.0 in
    let second = or_parts (eqb (length cs) 0) _ first.1 in
    let third = or_parts (eqb (length cs % 2) 1) (ltb line_room (length cs)) second.1 in
    (record { digits = ltb-false _ _ first.0; even = eqb-false _ _ third.0; few = ltb-false _ _ third.1 }, r.1)

pub writes_back : (cs bs : List ℕ) → line_bytes cs ≡ Ok bs → (line_of bs ≡ cs) × AllByRecursion (λ b. b < 256) bs
writes_back cs bs q =
    let (good, same) = good_line cs bs q in
    (ap line_of (sym same) ∙ held_line cs good.digits good.even, subst (AllByRecursion (λ b. b < 256)) same (held_small cs))

pub one_line : (cs ds bs : List ℕ) → line_bytes cs ≡ Ok bs → line_bytes ds ≡ Ok bs → cs ≡ ds
one_line cs ds bs p q = sym (writes_back cs bs p).0 ∙ (writes_back ds bs q).0

-- The laws of lines and frames

pub frame_fits : (p : Plan) (c : Content) → Lawful p c → (0 < length (bytes_of p c)) × (length (bytes_of p c) ≤ frame_room)
frame_fits p c l = (some c, let most = p.most in let few = p.few in let f = (fits p c (omega arith) (omega arith) l).1 in omega arith)
  where
    some : (c : Content) → 0 < length (bytes_of p c)
    some (order e) = omega arith
    some (token t) = omega arith

pub bytes_read_back : (p : Plan) (c : Content) → Lawful p c → line_bytes (line_of (bytes_of p c)) ≡ Ok (bytes_of p c)
bytes_read_back p c l =
    let most = p.most in
    let few = p.few in
    let fit = frame_fits p c l in
    reads_back (bytes_of p c) (fits p c (omega arith) (omega arith) l).0 fit.0 fit.1

pub have_line : (p : Plan) (c : Content) → Lawful p c → line_as p (line_of (bytes_of p c)) ≡ Ok c
have_line p c l = ap (λ z. then_by z (λ bs. carried (read_as p bs))) (bytes_read_back p c l) ∙ ap carried (written.written p c l)

-- what a line holds, if it reads
pub record Held (p : Plan) (cs : List ℕ) (c : Content) : Type 0 where
  pub bytes : List ℕ
  pub line : line_bytes cs ≡ Ok bytes
  pub frame : read_as p bytes ≡ Ok c

pub held : (p : Plan) (cs : List ℕ) (c : Content) → line_as p cs ≡ Ok c → Held p cs c
held p cs c q = bytes (line_bytes cs) refl q
  where
    frame : (bs : List ℕ) (r : Result Content FrameFault) → line_bytes cs ≡ Ok bs → read_as p bs ≡ r → carried r ≡ Ok c → Held p cs c
    frame bs (Ok d) l e q = record { bytes = bs; line = l; frame = e ∙ cc }
    frame bs (Err d) l e q = let z : ◌≡◌ {A = ℕ} 0 1 = cc in absurd (omega arith)

    bytes : (r : Result (List ℕ) LineFault) → line_bytes cs ≡ r → then_by r (λ bs. carried (read_as p bs)) ≡ Ok c → Held p cs c
    bytes (Ok bs) e q = frame bs (read_as p bs) e refl q
    bytes (Err d) e q = let z : ◌≡◌ {A = ℕ} 0 1 = cc in absurd (omega arith)

pub one_line_for : (p : Plan) (cs ds : List ℕ) (c : Content) → line_as p cs ≡ Ok c → line_as p ds ≡ Ok c → cs ≡ ds
one_line_for p cs ds c x y =
    let a = held p cs c x in
    let b = held p ds c y in
    let same = frame.one p a.bytes b.bytes c (writes_back cs a.bytes a.line).1 (writes_back ds b.bytes b.line).1 a.frame b.frame in
    one_line cs ds b.bytes (a.line ∙ ap Ok same) b.line
