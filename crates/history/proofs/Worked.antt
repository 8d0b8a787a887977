-- The worked history is built token by token.
use Rattle.std.proofs.Common.{◌≡◌, ℕ, ◌+◌, ◌<◌, ◌≤◌, false, List, [], ◌∷◌, refl, arith, slice_get, Some}
use mathlib.Core.List.{cons≢nil}
use Rattle.frames.specs.declared.Entry.{Entry}
use Rattle.frames.specs.Contents.{has}
use Rattle.history.specs.Tokens.{Token, Old, Keep, Fresh, Decide, Step, Lawful}
use Rattle.history.specs.Tokens.Step.{old, keep, fresh, decide}
use Rattle.history.specs.Histories.{History, In, empty, begun}
use Rattle.history.specs.Entries.{Put}
use Rattle.history.specs.Worked.{seven, slew, park, sent, slew_proposed, park_proposed, both_decided, half_way, worked, Worked}
use Rattle.history.proofs.Listed.{at_place, stamps, free_of, from_place, keep_next, keep_over}
use Rattle.history.proofs.Growth.{grown, grows}
use Rattle.history.proofs.Orders.{orders_agree}

-- one more token, from the parent at a place of the list
more : (H : History Entry) (s : ℕ) (t : Token Entry) (at : ℕ) (u : Token Entry) (place : ℕ) → Lawful (Put seven sent) (In H) 2 → slice_get H place ≡ Some (at, u) → (at < s) × (s ≤ at + 2 + 1) → has s (stamps H) ≡ false → Step (Put seven sent) (In H) 2 s at t u → Lawful (Put seven sent) (In ((s, t) ∷ H)) 2
more H s t at u place law q near free step = grown (Put seven sent) 2 H s t law (from_place (Put seven sent) H 2 s at place t u q near step) (free_of s H free)

put_slew : Put seven sent [] (slew ∷ [])
put_slew = record {
  lawful = record { each = (record { id_in_range = omega arith; eight = refl; bytes = omega arith }, tt); ascend = omega arith };
  undecided = (refl, tt);
  were_sent = ((1, omega arith, λ d. refl), tt);
}

put_park : Put seven sent ((slew ∷ []) ∷ []) (park ∷ [])
put_park = record {
  lawful = record { each = (record { id_in_range = omega arith; eight = refl; bytes = omega arith }, tt); ascend = omega arith };
  undecided = (refl, tt);
  were_sent = ((0, omega arith, λ d. refl), tt);
}

put_nothing : (ds : List (List Entry)) → Put seven sent ds []
put_nothing ds = record { lawful = record { each = tt; ascend = tt }; undecided = tt; were_sent = tt }

two : Fresh (Put seven sent) (slew_proposed 1) (empty 1)
two = record { unproposed = refl; decided = refl; one_vote = refl; fits = put_slew }

three : Keep 2 3 2 (slew_proposed 2) (slew_proposed 1)
three = keep_next 2 2 (slew_proposed 1) cons≢nil (omega arith)

five : Keep 2 5 3 (slew_proposed 1) (slew_proposed 2)
five = keep_over 2 5 3 (slew_proposed 2) cons≢nil (omega arith) (omega arith)

four : Decide (Put seven sent) 2 4 3 (park_proposed 1) (slew_proposed 2)
four = record { next = refl; full = refl; proposed = cons≢nil; decided = refl; one_vote = refl; fits = put_park }

at_seven : Keep 2 7 5 (slew_proposed 1) (slew_proposed 1)
at_seven = keep_over 2 7 5 (slew_proposed 1) cons≢nil (omega arith) (omega arith)

nine : Keep 2 9 7 (slew_proposed 1) (slew_proposed 1)
nine = keep_over 2 9 7 (slew_proposed 1) cons≢nil (omega arith) (omega arith)

eleven : Old (Put seven sent) (In half_way) 11 (park_proposed 1) (slew_proposed 1)
eleven = record {
  from = 4;
  other = park_proposed 1;
  earlier = omega arith;
  made = at_place half_way 2 (4, park_proposed 1) refl;
  longer = omega arith;
  decided = refl;
  one_vote = refl;
  fits = put_park;
}

twelve : Keep 2 12 11 (park_proposed 2) (park_proposed 1)
twelve = keep_next 2 11 (park_proposed 1) cons≢nil (omega arith)

six : Keep 2 6 5 (slew_proposed 2) (slew_proposed 1)
six = keep_next 2 5 (slew_proposed 1) cons≢nil (omega arith)

thirteen : Decide (Put seven sent) 2 13 12 both_decided (park_proposed 2)
thirteen = record { next = refl; full = refl; proposed = cons≢nil; decided = refl; one_vote = refl; fits = put_nothing ((slew ∷ []) ∷ (park ∷ []) ∷ []) }

abbrev H₂ : History Entry
H₂ = (2, slew_proposed 1) ∷ begun

abbrev H₃ : History Entry
H₃ = (3, slew_proposed 2) ∷ H₂

abbrev H₅ : History Entry
H₅ = (5, slew_proposed 1) ∷ H₃

abbrev H₄ : History Entry
H₄ = (4, park_proposed 1) ∷ H₅

abbrev H₇ : History Entry
H₇ = (7, slew_proposed 1) ∷ H₄

abbrev H₁₁ : History Entry
H₁₁ = (11, park_proposed 1) ∷ half_way

abbrev H₁₂ : History Entry
H₁₂ = (12, park_proposed 2) ∷ H₁₁

abbrev H₆ : History Entry
H₆ = (6, slew_proposed 2) ∷ H₁₂

law₂ : Lawful (Put seven sent) (In H₂) 2
law₂ = more begun 2 (slew_proposed 1) 1 (empty 1) 0 ((grows (Put seven sent)).start 2) refl (omega arith) refl (fresh two)

law₃ : Lawful (Put seven sent) (In H₃) 2
law₃ = more H₂ 3 (slew_proposed 2) 2 (slew_proposed 1) 0 law₂ refl (omega arith) refl (keep three)

law₅ : Lawful (Put seven sent) (In H₅) 2
law₅ = more H₃ 5 (slew_proposed 1) 3 (slew_proposed 2) 0 law₃ refl (omega arith) refl (keep five)

-- stamp 4 comes after stamp 5
law₄ : Lawful (Put seven sent) (In H₄) 2
law₄ = more H₅ 4 (park_proposed 1) 3 (slew_proposed 2) 1 law₅ refl (omega arith) refl (decide four)

law₇ : Lawful (Put seven sent) (In H₇) 2
law₇ = more H₄ 7 (slew_proposed 1) 5 (slew_proposed 1) 1 law₄ refl (omega arith) refl (keep at_seven)

law₉ : Lawful (Put seven sent) (In half_way) 2
law₉ = more H₇ 9 (slew_proposed 1) 7 (slew_proposed 1) 0 law₇ refl (omega arith) refl (keep nine)

law₁₁ : Lawful (Put seven sent) (In H₁₁) 2
law₁₁ = more half_way 11 (park_proposed 1) 9 (slew_proposed 1) 0 law₉ refl (omega arith) refl (old eleven)

law₁₂ : Lawful (Put seven sent) (In H₁₂) 2
law₁₂ = more H₁₁ 12 (park_proposed 2) 11 (park_proposed 1) 0 law₁₁ refl (omega arith) refl (keep twelve)

-- stamp 6 comes after stamp 12
law₆ : Lawful (Put seven sent) (In H₆) 2
law₆ = more H₁₂ 6 (slew_proposed 2) 5 (slew_proposed 1) 5 law₁₂ refl (omega arith) refl (keep six)

law₁₃ : Lawful (Put seven sent) (In worked) 2
law₁₃ = more H₆ 13 both_decided 12 (park_proposed 2) 1 law₆ refl (omega arith) refl (decide thirteen)

pub is_worked : Worked
is_worked = record {
  lawful = law₁₃;
  sound = orders_agree seven sent worked law₁₃;
  stamp_0 = record { voted = refl; unproposed = refl; undecided = refl };
  stamp_1 = record { voted = refl; unproposed = refl; undecided = refl };
  stamp_2 = two;
  stamp_3 = three;
  stamp_5 = five;
  stamp_4 = four;
  stamp_7 = at_seven;
  stamp_9 = nine;
  stamp_11 = eleven;
  stamp_12 = twelve;
  stamp_6 = six;
  stamp_13 = thirteen;
}
