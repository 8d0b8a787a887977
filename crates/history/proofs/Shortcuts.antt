-- The histories of the shortcuts, token by token.
use Rattle.std.proofs.Common.{◌≡◌, ℕ, ◌+◌, ◌<◌, ◌≤◌, ◌≢◌, [], ◌∷◌, refl, inl, inr, arith, slice_get, Some}
use mathlib.Core.List.{cons≢nil}
use Rattle.std.specs.List.{AllByRecursion}
use Rattle.std.proofs.lemmas.Bool.{true≢false}
use Rattle.history.specs.Tokens.{Token, Rule, Any, Decide, Step, Created}
use Rattle.history.specs.Tokens.Step.{keep, fresh, decide}
use Rattle.history.specs.Tokens.Created.{dummy, first}
use Rattle.history.specs.Histories.{History, In, empty, Agree, Clear}
use Rattle.history.specs.Shortcuts.{LawfulBut, Split, Repeat, GapOverlooked, VoteSaved, Dropped, Kept, proposed, decided, beside, again, gap_history, vote_history, blind_history, twice_history, kept_history, ShortcutsFail}
use Rattle.history.proofs.Listed.{at_place, each_in, single_of, from_place, keep_next, keep_over}

-- the decision of a lone entry
lone : (Fit : Rule ℕ) (f p e : ℕ) → Fit ((e ∷ []) ∷ []) [] → Decide Fit f (p + 1) p (decided e) (proposed f e)
lone Fit f p e fits = record { next = refl; full = refl; proposed = cons≢nil; decided = refl; one_vote = refl; fits = fits }

-- tokens of a history that are made by the rules, with the place of the parent in the list
module _ (Fit : Rule ℕ) (H : History ℕ) (f : ℕ) where
  zeroth : Created Fit (In H) f 0 (empty 0)
  zeroth = dummy refl (record { voted = refl; unproposed = refl; undecided = refl })

  one : Created Fit (In H) f 1 (empty 1)
  one = first refl (record { voted = refl; unproposed = refl; undecided = refl })

  opening : (s e place : ℕ) → slice_get H place ≡ Some (1, empty 1) → (1 < s) × (s ≤ 1 + f + 1) → Fit [] (e ∷ []) → Created Fit (In H) f s (proposed 1 e)
  opening s e place q near fits = from_place Fit H f s 1 place (proposed 1 e) (empty 1) q near (fresh (record { unproposed = refl; decided = refl; one_vote = refl; fits = fits }))

  skipping : (s p v e place : ℕ) → slice_get H place ≡ Some (p, proposed v e) → (p + 1 < s) × (s ≤ p + f + 1) × (1 ≤ f) → Created Fit (In H) f s (proposed 1 e)
  skipping s p v e place q near = from_place Fit H f s p place (proposed 1 e) (proposed v e) q (omega (arith, near.0), near.1) (keep (keep_over f s p (proposed v e) cons≢nil (omega (arith, near.0)) near.2))

  joining : (p v e place : ℕ) → slice_get H place ≡ Some (p, proposed v e) → v + 1 ≤ f → Created Fit (In H) f (p + 1) (proposed (v + 1) e)
  joining p v e place q few = from_place Fit H f (p + 1) p place (proposed (v + 1) e) (proposed v e) q (omega arith, omega arith) (keep (keep_next f p (proposed v e) cons≢nil few))

  deciding : (p e place : ℕ) → slice_get H place ≡ Some (p, proposed f e) → Fit ((e ∷ []) ∷ []) [] → Created Fit (In H) f (p + 1) (decided e)
  deciding p e place q fits = from_place Fit H f (p + 1) p place (decided e) (proposed f e) q (omega arith, omega arith) (decide (lone Fit f p e fits))

  -- but for the stamp s, all tokens are made by the rules
  abbrev But : ℕ → ℕ × Token ℕ → Type 0
  But s x = x.0 ≢ s → Created Fit (In H) f x.0 x.1

  but_for : (s : ℕ) → AllByRecursion (But s) H → (x : ℕ) (w : Token ℕ) → In H x w → x ≢ s → Created Fit (In H) f x w
  but_for s a x w m = each_in (But s) H a (x, w) m

-- for a token that is made by the rules, and for the one that is not
by : {A : Type 0} {s x : ℕ} → A → x ≢ s → A
by a ne = a

here : {A : Type 0} {s : ℕ} → s ≢ s → A
here ne = absurd (ne refl)

heads : {A : Type 0} (x y : A) → Agree (x ∷ []) (y ∷ []) → x ≡ y
heads x y (inl b) = let e = b.1 in cc
heads x y (inr b) = let e = b.1 in cc

-- one token has 7 as its first decision, another 8
split : (H : History ℕ) (s s' place place' : ℕ) → slice_get H place ≡ Some (s, decided 7) → slice_get H place' ≡ Some (s', decided 8) → Split H
split H s s' place place' q q' = record {
  s = s;
  s' = s';
  t = decided 7;
  t' = decided 8;
  made = at_place H place (s, decided 7) q;
  made' = at_place H place' (s', decided 8) q';
  apart = λ a. let e = heads (7 ∷ []) (8 ∷ []) a in cc;
}

gap_others : AllByRecursion (But Any gap_history 1 4) gap_history
gap_others = (by six, (by five, (here, (by three, (by two, (by (one Any gap_history 1), (by (zeroth Any gap_history 1), tt)))))))
  where
    six : Created Any (In gap_history) 1 6 (decided 8)
    six = deciding Any gap_history 1 5 8 1 refl tt

    five : Created Any (In gap_history) 1 5 (proposed 1 8)
    five = skipping Any gap_history 1 5 3 1 8 3 refl (omega arith)

    three : Created Any (In gap_history) 1 3 (proposed 1 8)
    three = opening Any gap_history 1 3 8 5 refl (omega arith) tt

    two : Created Any (In gap_history) 1 2 (proposed 1 7)
    two = opening Any gap_history 1 2 7 5 refl (omega arith) tt

gap_but : LawfulBut Any 1 2 (λ s p. GapOverlooked (In gap_history) 1 s) gap_history
gap_but = record {
  single = single_of gap_history refl;
  s = 4;
  t = decided 7;
  made = at_place gap_history 2 _ refl;
  p = 2;
  u = proposed 1 7;
  parent_made = at_place gap_history 4 _ refl;
  before = omega arith;
  near = omega arith;
  short = decide (lone Any 1 3 7 tt);
  others = but_for Any gap_history 1 4 gap_others;
}

vote_others : AllByRecursion (But Any vote_history 2 3) vote_history
vote_others = (by six, (by five, (by four, (here, (by two, (by (one Any vote_history 2), (by (zeroth Any vote_history 2), tt)))))))
  where
    six : Created Any (In vote_history) 2 6 (decided 8)
    six = deciding Any vote_history 2 5 8 1 refl tt

    five : Created Any (In vote_history) 2 5 (proposed 2 8)
    five = joining Any vote_history 2 4 1 8 2 refl (omega arith)

    four : Created Any (In vote_history) 2 4 (proposed 1 8)
    four = opening Any vote_history 2 4 8 5 refl (omega arith) tt

    two : Created Any (In vote_history) 2 2 (proposed 1 7)
    two = opening Any vote_history 2 2 7 5 refl (omega arith) tt

vote_but : LawfulBut Any 2 3 (VoteSaved (In vote_history) 2) vote_history
vote_but = record {
  single = single_of vote_history refl;
  s = 3;
  t = decided 7;
  made = at_place vote_history 3 _ refl;
  p = 2;
  u = proposed 1 7;
  parent_made = at_place vote_history 4 _ refl;
  before = omega arith;
  near = omega arith;
  short = decide (lone Any 1 2 7 tt);
  others = but_for Any vote_history 2 3 vote_others;
}

blind_others : AllByRecursion (But Any blind_history 1 4) blind_history
blind_others = (by five, (here, (by three, (by two, (by (one Any blind_history 1), (by (zeroth Any blind_history 1), tt))))))
  where
    five : Created Any (In blind_history) 1 5 (decided 8)
    five = deciding Any blind_history 1 4 8 1 refl tt

    three : Created Any (In blind_history) 1 3 (decided 7)
    three = deciding Any blind_history 1 2 7 3 refl tt

    two : Created Any (In blind_history) 1 2 (proposed 1 7)
    two = opening Any blind_history 1 2 7 4 refl (omega arith) tt

far_but : LawfulBut Any 1 3 (Step Any (In blind_history) 1) blind_history
far_but = record {
  single = single_of blind_history refl;
  s = 4;
  t = proposed 1 8;
  made = at_place blind_history 1 _ refl;
  p = 1;
  u = empty 1;
  parent_made = at_place blind_history 4 _ refl;
  before = omega arith;
  near = omega arith;
  short = fresh (record { unproposed = refl; decided = refl; one_vote = refl; fits = tt });
  others = but_for Any blind_history 1 4 blind_others;
}

dropped_but : LawfulBut Any 1 2 (λ s p. Dropped) blind_history
dropped_but = record {
  single = single_of blind_history refl;
  s = 4;
  t = proposed 1 8;
  made = at_place blind_history 1 _ refl;
  p = 2;
  u = proposed 1 7;
  parent_made = at_place blind_history 3 _ refl;
  before = omega arith;
  near = omega arith;
  short = record { decided = refl; one_vote = refl };
  others = but_for Any blind_history 1 4 blind_others;
}

twice_all : AllByRecursion (λ x. Created Any (In twice_history) 1 x.0 x.1) twice_history
twice_all = (five, (four, (three, (two', (two, (one Any twice_history 1, (zeroth Any twice_history 1, tt)))))))
  where
    five : Created Any (In twice_history) 1 5 (decided 8)
    five = deciding Any twice_history 1 4 8 1 refl tt

    four : Created Any (In twice_history) 1 4 (proposed 1 8)
    four = skipping Any twice_history 1 4 2 1 8 3 refl (omega arith)

    three : Created Any (In twice_history) 1 3 (decided 7)
    three = deciding Any twice_history 1 2 7 4 refl tt

    two' : Created Any (In twice_history) 1 2 (proposed 1 8)
    two' = opening Any twice_history 1 2 8 5 refl (omega arith) tt

    two : Created Any (In twice_history) 1 2 (proposed 1 7)
    two = opening Any twice_history 1 2 7 5 refl (omega arith) tt

twice_made : (s : ℕ) (t : Token ℕ) → In twice_history s t → Created Any (In twice_history) 1 s t
twice_made s t m = each_in (λ x. Created Any (In twice_history) 1 x.0 x.1) twice_history twice_all (s, t) m

abbrev Own : Rule ℕ
Own = Clear (λ i. i)

kept_others : AllByRecursion (But Own kept_history 1 6) kept_history
kept_others = (by seven, (here, (by three, (by four, (by two, (by (one Own kept_history 1), (by (zeroth Own kept_history 1), tt)))))))
  where
    seven : Created Own (In kept_history) 1 7 again
    seven = from_place Own kept_history 1 7 6 1 again beside refl (omega arith) (decide (record { next = refl; full = refl; proposed = cons≢nil; decided = refl; one_vote = refl; fits = tt }))

    three : Created Own (In kept_history) 1 3 (decided 7)
    three = deciding Own kept_history 1 2 7 4 refl tt

    four : Created Own (In kept_history) 1 4 (proposed 1 7)
    four = skipping Own kept_history 1 4 2 1 7 4 refl (omega arith)

    two : Created Own (In kept_history) 1 2 (proposed 1 7)
    two = opening Own kept_history 1 2 7 5 refl (omega arith) (refl, tt)

kept_but : LawfulBut Own 1 2 (λ s p. Kept (In kept_history) s) kept_history
kept_but = record {
  single = single_of kept_history refl;
  s = 6;
  t = beside;
  made = at_place kept_history 1 _ refl;
  p = 4;
  u = proposed 1 7;
  parent_made = at_place kept_history 3 _ refl;
  before = omega arith;
  near = omega arith;
  short = record { from = 3; other = decided 7; earlier = omega arith; made = at_place kept_history 2 _ refl; longer = omega arith; decided = refl; same = refl; one_vote = refl };
  others = but_for Own kept_history 1 6 kept_others;
}

kept_repeat : Repeat kept_history
kept_repeat = record {
  s = 7;
  t = again;
  made = at_place kept_history 0 _ refl;
  twice = λ o. true≢false o.1.0;
}

pub shortcuts_fail : ShortcutsFail
shortcuts_fail = record {
  gap = (gap_but, split gap_history 4 6 2 0 refl refl);
  vote = (vote_but, split vote_history 3 6 3 0 refl refl);
  far = (far_but, split blind_history 3 5 2 0 refl refl);
  dropped = (dropped_but, split blind_history 3 5 2 0 refl refl);
  twice = (twice_made, split twice_history 3 5 2 0 refl refl);
  kept = (kept_but, kept_repeat);
}
