-- A token at hand that reads back fits a frame's buffer.
use Rattle.std.proofs.Common.{◌≡◌, ℕ, ◌+◌, ◌*◌, ◌<◌, ◌≤◌, List, [], ◌∷◌, ◌++◌, length, take, drop, set, Ok, Err, Result, OnOk, sum, sym, ap, arith, length-drop, length-take}
use Rattle.std.specs.List.{flat_map, AllByRecursion}
use lib.Seq.{paste}
use Rattle.std.proofs.lemmas.List.{length-append, take_all}
use Rattle.std.proofs.ByRecursion.{All-append, All-take, All-drop}
use Rattle.std.proofs.lemmas.List.Sums.{sum_by-cons}
use Rattle.frames.specs.declared.plan.Plan.{Plan}
use Rattle.frames.specs.declared.Entry.{Entry}
use Rattle.frames.specs.declared.FrameFault.{FrameFault}
use Rattle.frames.specs.Contents.{Token, Whole, LawfulToken, entry_bytes, decision_bytes, token_bytes, parted}
use Rattle.frames.specs.Contents.Content.{token}
use Rattle.frames.specs.Reading.{read_as}
use Rattle.frames.proofs.Written.{joined_length}
use Rattle.frames.proofs.Room.{entries_bytes, fits}
use Rattle.frames.proofs.Back.{Bytes, back}
use Rattle.writing.specs.Parted.{drafted}
use Rattle.writing.specs.Checked.{Shaped, Sound, Checks}
use Rattle.writing.specs.declared.Draft.{Draft}
use Rattle.writing.proofs.Lists.{parted_count}

parted_bytes : (cs : List ℕ) (es : List Entry) → Bytes cs → AllByRecursion Whole es → Bytes (flat_map decision_bytes (parted cs es))
parted_bytes [] es b w = tt
parted_bytes (c ∷ cs) es b w =
    let d = take c es in
    let n : length d < 256 = let h = b.0 in simp length-take (omega arith) in
    All-append (λ x. x < 256) (decision_bytes d) (flat_map decision_bytes (parted cs (drop c es))) (n, entries_bytes d (All-take Whole c es w)) (parted_bytes cs (drop c es) b.1 (All-drop Whole c es w))

parted_length : (cs : List ℕ) (es : List Entry) → AllByRecursion Whole es → sum cs ≡ length es → length (flat_map decision_bytes (parted cs es)) ≡ length cs + 9 * length es
parted_length [] es w q = let n : length es ≡ 0 = sym q in omega arith
parted_length (c ∷ cs) es w q =
    let d = take c es in
    let s = sum_by-cons (λ x. x) c cs in
    let taken = length-take c es in
    let left = length-drop c es in
    let n = joined_length d (All-take Whole c es w) in
    let ih = parted_length cs (drop c es) (All-drop Whole c es w) (omega arith) in
    let all = length-append (flat_map entry_bytes d) (flat_map decision_bytes (parted cs (drop c es))) in
    omega arith

module _ (p : Plan) (d : Draft) (hs : d.sender < 256) (hv : d.votes < 256) (bs : Bytes d.lengths.now) (s : Shaped (length d.proposal.now) d.lengths.now (length d.entries.now)) where
  abbrev t : Token
  t = drafted d

  module _ (w : AllByRecursion Whole d.proposal.now) (v : AllByRecursion Whole d.entries.now) where
    token-bytes : Bytes (token_bytes p t)
    token-bytes =
        let n = parted_count d.lengths.now d.entries.now in
        let most = p.most in
        let few = p.few in
        let k = s.proposed_fits in
        let m = s.decided_fits in (
          omega arith,
          (
            omega arith,
            (
              hs,
              (
                omega arith,
                (
                  omega arith,
                  (
                    omega arith,
                    (
                      omega arith,
                      (
                        hv,
                        (
                          omega arith,
                          (
                            omega arith,
                            All-append (λ x. x < 256) (flat_map entry_bytes d.proposal.now) (flat_map decision_bytes (parted d.lengths.now d.entries.now)) (entries_bytes d.proposal.now w) (parted_bytes d.lengths.now d.entries.now bs v),
                          ),
                        ),
                      ),
                    ),
                  ),
                ),
              ),
            ),
          ),
        )

    token_long : length (token_bytes p t) ≡ 10 + 9 * length d.proposal.now + (length d.lengths.now + 9 * length d.entries.now)
    token_long =
        let a = length-append (flat_map entry_bytes d.proposal.now) (flat_map decision_bytes (parted d.lengths.now d.entries.now)) in
        let e = joined_length d.proposal.now w in
        let d = parted_length d.lengths.now d.entries.now v s.adds-up in
        omega arith

    lawful : read_as p (token_bytes p t) ≡ Ok (token t) → LawfulToken p t
    lawful q = (back p (token_bytes p t) (token t) token-bytes q).1

    room : read_as p (token_bytes p t) ≡ Ok (token t) → 10 + 9 * length d.proposal.now + (length d.lengths.now + 9 * length d.entries.now) ≤ 1060
    room q =
        let most = p.most in
        let f = (fits p (token t) (omega arith) (omega (arith, p.few)) (lawful q)).1 in
        let n = token_long in
        omega arith

    sound : read_as p (token_bytes p t) ≡ Ok (token t) → Sound p d
    sound q = record { shaped = s; lawful = lawful q; back = q; room = room q }

  pub sound_if : (r : Result (Unit {0}) FrameFault) → Checks (read_as p (token_bytes p t)) (token t) r → OnOk r (AllByRecursion Whole d.proposal.now × AllByRecursion Whole d.entries.now) → OnOk r (Sound p d)
  sound_if (Ok u) q w = sound w.0 w.1 q
  sound_if (Err e) q w = tt

-- an order frame at the front
pub order_front : (out : List ℕ) (b : ℕ) (E : List ℕ) → 2 ≤ length out → length E ≡ 9 → paste (set (set out 0 1) 1 b) 2 E 9 ≡ (1 ∷ b ∷ E) ++ drop 11 out
order_front [] b E h n = absurd (omega arith)
order_front (x ∷ []) b E h n = absurd (omega arith)
order_front (x ∷ y ∷ out) b E h n = ap (λ z. (1 ∷ b ∷ z) ++ drop 11 (x ∷ y ∷ out)) (take_all 9 E (omega arith))
