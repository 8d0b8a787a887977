-- A whole frame, as the code reads it.
use Rattle.std.proofs.Common.{◌≡◌, ℕ, suc, ◌+◌, ◌-◌, ◌*◌, ◌≤◌, List, [], ◌∷◌, ◌++◌, length, get_or, take, drop, Ok, Err, sym, refl, ap, ◌∙◌, arith, length-append}
use Rattle.std.specs.List.{flat_map}
use Rattle.std.proofs.lemmas.List.{take_at, drop_at, append-nil}
use Rattle.std.proofs.lemmas.Bool.{cond-true, lt-ltb}
use Rattle.frames.specs.declared.Cause.TheVariants as cause
use Rattle.frames.specs.declared.FrameFault.{FrameFault}
use Rattle.frames.specs.declared.plan.Plan.{Plan}
use Rattle.frames.specs.Contents.{Content, entry_bytes, decision_bytes}
use Rattle.frames.specs.Contents.Content.{order, token}
use Rattle.frames.specs.Reading.{Rest, entries_as, decisions_as, and_then, ended, entry_in, token_in, stamp_in, start_at, order_as, lists_as, entries_in, decisions_in}
use Rattle.frames.specs.Views.{shown_as}
use Rattle.frames.specs.Views.View.{an_order, a_token}
use Rattle.frames.proofs.Steps.{no_fault, through}
use Rattle.frames.proofs.Back.{entries, decisions}
use Rattle.reading.specs.declared.reader.Reader.{Reader}
use Rattle.reading.specs.Walking.{rest_of, nothing_after}

unfinished_at : (c : Content) (at : ℕ) (bs met : List ℕ) (e : FrameFault) → nothing_after at bs ≡ Err e → ended c (record { at = at; bytes = bs; met = met }) ≡ Err e
unfinished_at c at [] met e q = absurd (no_fault e tt (sym q))
unfinished_at c at (b ∷ bs) met e q = let f : record { place = at; cause = cause.Length } ≡ e = cc in cond-true _ _ _ (lt-ltb 0 (suc (length bs)) (omega arith)) ∙ ap Err f

finished_at : (c : Content) (at : ℕ) (bs met : List ℕ) → nothing_after at bs ≡ Ok tt → (ended c (record { at = at; bytes = bs; met = met }) ≡ Ok c) × (bs ≡ [])
finished_at c at [] met q = (refl, refl)
finished_at c at (b ∷ bs) met q = absurd (no_fault _ tt q)

module _ (c : Content) (w : Reader) (s : Rest) (here : s ≡ rest_of w s.met) where
  pub unfinished : (e : FrameFault) → nothing_after w.at w.rest.now ≡ Err e → ended c s ≡ Err e
  unfinished e q = ap (ended c) here ∙ unfinished_at c w.at w.rest.now s.met e q

  pub finished : nothing_after w.at w.rest.now ≡ Ok tt → (ended c s ≡ Ok c) × (s.bytes ≡ [])
  finished q = let f = finished_at c w.at w.rest.now s.met q in (ap (ended c) here ∙ f.0, ap (λ (z : Rest). z.bytes) here ∙ f.1)

module _ (p : Plan) (bs : List ℕ) where
  pub order_fails : (e : FrameFault) → entries_as p 1 0 (start_at 2 bs) ≡ Err e → order_as p bs ≡ Err e
  order_fails e q = ap (λ z. and_then z (ended (order (entry_in (drop 2 bs))))) q

  module _ (s : Rest) (q : entries_as p 1 0 (start_at 2 bs) ≡ Ok s) where
    pub order_ends : order_as p bs ≡ ended (order (entry_in (drop 2 bs))) s
    order_ends = through _ (ended (order (entry_in (drop 2 bs)))) s q

    pub order_shown : ended (order (entry_in (drop 2 bs))) s ≡ Ok (order (entry_in (drop 2 bs))) → s.bytes ≡ [] → shown_as (order_as p bs) ≡ Ok (an_order (drop 2 bs))
    order_shown h none =
        let es = entries p 1 0 (start_at 2 bs) s q in
        let e = entry_bytes (entry_in (drop 2 bs)) in
        let all : e ≡ drop 2 bs = sym (ap (λ z. (e ++ []) ++ z) none ∙ append-nil (e ++ []) ∙ append-nil e) ∙ es.front in
        ap shown_as (order_ends ∙ h) ∙ ap (λ z. Ok (an_order z)) all

  pub lists_fail : (e : FrameFault) → entries_as p (get_or bs 8 0) 0 (start_at 10 bs) ≡ Err e → lists_as p bs ≡ Err e
  lists_fail e q = ap (λ z. and_then (and_then z (decisions_as p (get_or bs 9 0))) (ended (token (token_in bs)))) q

  module _ (s : Rest) (q : entries_as p (get_or bs 8 0) 0 (start_at 10 bs) ≡ Ok s) where
    -- where the proposal ends
    pub middle : (w : Reader) → s ≡ rest_of w s.met → (w.at ≡ 10 + 9 * get_or bs 8 0) × (9 * get_or bs 8 0 ≤ length (drop 10 bs))
    middle w here =
        let es = entries p (get_or bs 8 0) 0 (start_at 10 bs) s q in
        let E = flat_map entry_bytes (entries_in (get_or bs 8 0) (drop 10 bs)) in
        let n = ap length es.front in
        let m = length-append E s.bytes in
        let long = es.long in
        (ap (λ (z : Rest). z.at) (sym here) ∙ es.place, omega arith)

    pub decisions_fail : (e : FrameFault) → decisions_as p (get_or bs 9 0) s ≡ Err e → lists_as p bs ≡ Err e
    decisions_fail e r = ap (λ z. and_then z (ended (token (token_in bs)))) (through _ (decisions_as p (get_or bs 9 0)) s q ∙ r)

    module _ (t : Rest) (r : decisions_as p (get_or bs 9 0) s ≡ Ok t) where
      pub token_ends : lists_as p bs ≡ ended (token (token_in bs)) t
      token_ends = through _ (ended (token (token_in bs))) t (through _ (decisions_as p (get_or bs 9 0)) s q ∙ r)

      pub token_shown : ended (token (token_in bs)) t ≡ Ok (token (token_in bs)) → t.bytes ≡ [] → (w : Reader) → s ≡ rest_of w s.met →
          shown_as (lists_as p bs) ≡ Ok (a_token (get_or bs 2 0) (stamp_in bs) (get_or bs 7 0) (take (w.at - 10) (drop 10 bs)) (get_or bs 9 0) (drop (w.at - 10) (drop 10 bs)))
      token_shown h none w here =
          let k = get_or bs 8 0 in
          let n = get_or bs 9 0 in
          let es = entries p k 0 (start_at 10 bs) s q in
          let ds = decisions p n s t r in
          let at = w.at in
          let place = (middle w here).0 in
          let E = flat_map entry_bytes (entries_in k (drop 10 bs)) in
          let long : length E ≡ at - 10 = es.long ∙ omega arith in
          let first : E ≡ take (at - 10) (drop 10 bs) = sym (take_at E s.bytes (at - 10) long) ∙ ap (take (at - 10)) es.front in
          let left : s.bytes ≡ drop (at - 10) (drop 10 bs) = sym (drop_at E s.bytes (at - 10) long) ∙ ap (drop (at - 10)) es.front in
          let d = decisions_in n s.bytes in
          let second : flat_map decision_bytes d ≡ drop (at - 10) (drop 10 bs) = sym (ap (λ z. flat_map decision_bytes d ++ z) none ∙ append-nil _) ∙ ds.front ∙ left in
          let same : decisions_in n (drop (9 * k) (drop 10 bs)) ≡ d = ap (λ z. decisions_in n z) (sym es.left) in
          ap shown_as (token_ends ∙ h)
          ∙ (λ i. Ok (a_token (get_or bs 2 0) (stamp_in bs) (get_or bs 7 0) (first i) (length (same i)) (flat_map decision_bytes (same i))))
          ∙ (λ i. Ok (a_token (get_or bs 2 0) (stamp_in bs) (get_or bs 7 0) (take (at - 10) (drop 10 bs)) (ds.count i) (second i)))
