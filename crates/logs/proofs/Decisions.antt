-- The part that a decision is.
use Rattle.std.proofs.Common.{◌≡◌, ℕ, ◌+◌, ◌<◌, ◌≤◌, true, length, Some, None, sym, ◌∙◌, inl, inr, arith}
use Rattle.std.specs.List.{between, slice_get}
use Rattle.std.proofs.lemmas.Option.{slice_get_past}
use Rattle.std.proofs.lemmas.List.Sums.{sum_by-take-le}
use Rattle.std.proofs.lemmas.Bool.{cases_lt, le-leb, lt-ltb, le-ltb}
use Rattle.lists.specs.Tables.{held}
use Rattle.logs.specs.declared.Log.{Log}
use Rattle.logs.specs.Logs.{lengths_of, log_of, adds_up, start_of, decision_at}
use Rattle.logs.proofs.Parted.{nth_parted, length_parted}
use Rattle.logs.proofs.Sound.{sound}

module _ (l : Log) (k : ℕ) where
  found : k < length (lengths_of l) → start_of l (k + 1) ≤ length (held l.entries) →
      decision_at l k ≡ Some (between (start_of l k) (start_of l (k + 1)) (held l.entries))
  found h le =
      let a = lt-ltb k (length (lengths_of l)) h in
      let b = le-leb (start_of l (k + 1)) (length (held l.entries)) le in
      rw (a, b)

  past : length (lengths_of l) ≤ k → decision_at l k ≡ None
  past h = let a = le-ltb k (length (lengths_of l)) h in rw a

  pub decision_means : adds_up l ≡ true → decision_at l k ≡ slice_get (log_of l) k
  decision_means q =
      elim (cases_lt k (length (lengths_of l))) [
        | inl y ↦ found y (omega (arith, sum_by-take-le (λ x. x) (lengths_of l) (k + 1), (sound l q).add_up)) ∙ sym (nth_parted (lengths_of l) (held l.entries) k y)
        | inr n ↦
            past n ∙ sym (slice_get_past (log_of l) k (omega (arith, length_parted (lengths_of l) (held l.entries))))
      ]
