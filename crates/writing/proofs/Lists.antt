-- What reading the bytes of a draft gives, when its parts are walked over.
use Rattle.std.proofs.Common.{◌≡◌, ℕ, suc, ◌^◌, ◌<◌, ◌≤◌, Bool, cond, ltb, leb, List, [], ◌∷◌, ◌++◌, length, drop, Ok, Err, Result, OnOk, sym, refl, ap, ◌∙◌, inr, arith}
use Rattle.std.specs.List.{flat_map, AllByRecursion}
use Rattle.std.proofs.ByRecursion.{All-take, All-drop}
use Rattle.std.proofs.lemmas.Bool.{cond-false, le-ltb}
use Rattle.frames.specs.declared.Cause.TheVariants as cause
use Rattle.frames.specs.declared.plan.Plan.{Plan}
use Rattle.frames.specs.declared.Entry.{Entry}
use Rattle.frames.specs.declared.FrameFault.{FrameFault}
use Rattle.frames.specs.Contents.{Token, Content, Whole, entry_bytes, decision_bytes, token_bytes, parted}
use Rattle.frames.specs.Contents.Content.{token}
use Rattle.frames.specs.Reading.{Rest, entries_as, decisions_as, and_then, ended, fault_at, lists_as, read_as, token_in, bad_round, bad_votes, bad_proposed, bad_decided}
use Rattle.frames.proofs.Steps.{through}
use Rattle.frames.proofs.Written.{by_kind, four, token-in}
use Rattle.reading.specs.declared.head.Head.{Head}
use Rattle.reading.specs.Heads.{head_in, head_as, number_as}
use Rattle.reading.proofs.Heads.{headed}
use Rattle.writing.specs.declared.Draft.{Draft}
use Rattle.writing.specs.declared.walk.Walk.{Walk}
use Rattle.writing.specs.Checked.{Checks, head_of}
use Rattle.writing.specs.Parted.{drafted}
use Rattle.writing.specs.Walking.{Walks}
use Rattle.writing.specs.Written.{fault_of}
use Rattle.writing.proofs.Steps.{stood, fell}

-- A token

pub parted_count : (cs : List ℕ) (es : List Entry) → length (parted cs es) ≡ length cs
parted_count [] es = refl
parted_count (c ∷ cs) es = ap suc (parted_count cs (drop c es))

pub whole_parts : (cs : List ℕ) (es : List Entry) → AllByRecursion Whole es → AllByRecursion (AllByRecursion Whole) (parted cs es)
whole_parts [] es w = tt
whole_parts (c ∷ cs) es w = (All-take Whole c es w, whole_parts cs (drop c es) (All-drop Whole c es w))

-- all the bytes of the head are there
number_long : (n end place : ℕ) (bad : Bool) → end ≤ n → number_as n end place bad ≡ cond bad (fault_at place cause.Range) (Ok tt)
number_long n end place bad h = cond-false _ _ _ (le-ltb n end h)

head_long : (p : Plan) (h : Head) (n : ℕ) → 10 ≤ n → head_as p h n ≡ head_as p h 10
head_long p h n le = λ i.
    and_then (number_long n 3 2 (leb p.n h.sender) (omega arith) i)
    (λ _. and_then (number_long n 7 3 (bad_round p h.sender h.stamp) (omega arith) i)
    (λ _. and_then (number_long n 8 7 (bad_votes p h.stamp h.votes) (omega arith) i)
    (λ _. and_then (number_long n 9 8 (bad_proposed h.stamp h.votes h.proposed) (omega arith) i)
    (λ _. number_long n 10 9 (bad_decided h.stamp h.decided) (omega arith) i))))

module _ (p : Plan) (d : Draft) (h : d.stamp < 2 ^ 32) where
  abbrev t : Token
  t = drafted d

  abbrev bs : List ℕ
  bs = token_bytes p t

  abbrev D : List ℕ
  D = flat_map decision_bytes (parted d.lengths.now d.entries.now)

  -- the head first, and then the lists
  by_head : read_as p bs ≡ and_then (head_as p (head_of d) 10) (λ _. lists_as p bs)
  by_head =
      let stamp = four d.stamp h in
      let count = parted_count d.lengths.now d.entries.now in
      let head : head_in bs ≡ head_of d = λ i. record { sender = d.sender; stamp = stamp i; votes = d.votes; proposed = length d.proposal.now; decided = count i } in
      by_kind p bs (omega arith) refl 2 (inr refl) refl ∙ headed p bs
      ∙ ap (λ z. and_then z (λ _. lists_as p bs)) (head_long p (head_in bs) (length bs) (omega arith) ∙ ap (λ z. head_as p z 10) head)

  pub head_fails : (e : FrameFault) → Err e ≡ head_as p (head_of d) 10 → read_as p bs ≡ Err e
  head_fails e q = by_head ∙ ap (λ z. and_then z (λ _. lists_as p bs)) (sym q)

  pub head_passes : Ok tt ≡ head_as p (head_of d) 10 → read_as p bs ≡ lists_as p bs
  head_passes q = by_head ∙ ap (λ z. and_then z (λ _. lists_as p bs)) (sym q)

  abbrev start : Rest
  start = record { at = 10; bytes = flat_map entry_bytes d.proposal.now ++ D; met = [] }

  module _ (s : Rest) (q : entries_as p (length d.proposal.now) 0 start ≡ Ok s) where
    on : and_then (entries_as p (length d.proposal.now) 0 start) (decisions_as p (length (parted d.lengths.now d.entries.now))) ≡ decisions_as p (length d.lengths.now) s
    on = through _ (decisions_as p (length (parted d.lengths.now d.entries.now))) s q ∙ ap (λ z. decisions_as p z s) (parted_count d.lengths.now d.entries.now)

    pub lists_fail : (e : FrameFault) → decisions_as p (length d.lengths.now) s ≡ Err e → lists_as p bs ≡ Err e
    lists_fail e r = ap (λ z. and_then z (ended (token (token_in bs)))) (on ∙ r)

    pub lists_pass : (u : Rest) → decisions_as p (length d.lengths.now) s ≡ Ok u → u.bytes ≡ [] → AllByRecursion Whole d.proposal.now → AllByRecursion Whole d.entries.now → lists_as p bs ≡ Ok (token t)
    lists_pass u r none w v =
        through _ (ended (token (token_in bs))) u (on ∙ r)
        ∙ ap (λ z. cond (ltb 0 (length z)) (fault_at u.at cause.Length) (Ok (token (token_in bs)))) none
        ∙ ap (λ z. Ok (token z)) (token-in p t h w (whole_parts d.lengths.now d.entries.now v))

    pub lists_end : (r : Result (Unit {0}) FrameFault) (after : Walk) → Walks p (decisions_as p (length d.lengths.now) s) [] r after →
        AllByRecursion Whole d.proposal.now → OnOk r (AllByRecursion Whole d.entries.now) → Checks (lists_as p bs) (token t) r
    lists_end (Ok u) after k w v = let one = stood p _ [] after k in lists_pass one.rest one.is (ap (λ (z : Rest). z.bytes) one.here.rest) w v
    lists_end (Err e) after k w v = lists_fail e (fell p _ [] e after k)

pub fault_found : (w : Result Content FrameFault) (c : Content) (r : Result (Unit {0}) FrameFault) → Checks w c r → fault_of r ≡ fault_of w
fault_found w c (Ok u) h = sym (ap fault_of h)
fault_found w c (Err e) h = sym (ap fault_of h)
