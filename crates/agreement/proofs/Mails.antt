-- What holds of each frame that waits stays so as frames are posted and taken out.
use Rattle.std.proofs.Common.{◌≡◌, ℕ, suc, ◌+◌, true, false, List, [], ◌∷◌, ◌++◌, length, take, drop, sym, refl, ◌∙◌, subst, ⊎_elim, arith}
use Rattle.std.specs.List.{AllByRecursion}
use Rattle.std.proofs.ByRecursion.{All-append, All-push, All-take, All-drop}
use Rattle.std.proofs.lemmas.Bool.{cases_eq, true≢false}
use Rattle.links.specs.Mail.{Mail}
use Rattle.links.specs.Calls.{Appended, Taken}
use Rattle.agreement.specs.Mail.{Posts, NoneMissed}
use Rattle.agreement.specs.Mail.Posts.{done, made, missed}

abbrev pub Mails : (List ℕ → Type 0) → Mail → Type 0
Mails P m = (x : ℕ) → AllByRecursion P (m.waiting x)

recount : {xs : List (ℕ × List ℕ)} {m m' : Mail} (j k : ℕ) → j ≡ k → Posts xs m j m' → Posts xs m k m'
recount {xs} {m} {m'} j k e r = subst (λ n. Posts xs m n m') e r

-- posts after posts, and one more post, made or missed: for loops
pub posts_append : {xs ys : List (ℕ × List ℕ)} {m m₁ m₂ : Mail} {j k : ℕ} → Posts xs m j m₁ → Posts ys m₁ k m₂ → Posts (xs ++ ys) m (j + k) m₂
posts_append {k = k} done q = recount k (0 + k) (omega arith) q
posts_append {k = k} (made {k = j} {m = m} {m₁ = m₁} nf a r) q = recount (j + k + 1) (j + 1 + k) (omega arith) (made {m = m} {m₁ = m₁} nf a (posts_append r q))
posts_append (missed {m = m} f r) q = missed {m = m} f (posts_append r q)

pub posts_made : {xs : List (ℕ × List ℕ)} {m m₁ m₂ : Mail} {j : ℕ} (to : ℕ) (frame : List ℕ) → Posts xs m j m₁ → m₁.full to ≡ false → Appended m₁ to frame m₂ → Posts (xs ++ (to, frame) ∷ []) m (j + 1) m₂
posts_made {m₁ = m₁} {m₂ = m₂} to frame r nf a = posts_append r (recount (0 + 1) 1 refl (made {m = m₁} {m₁ = m₂} nf a done))

pub posts_missed : {xs : List (ℕ × List ℕ)} {m m₁ : Mail} {j : ℕ} (to : ℕ) (frame : List ℕ) → Posts xs m j m₁ → m₁.full to ≡ true → Posts (xs ++ (to, frame) ∷ []) m j m₁
posts_missed {m₁ = m₁} {j = j} to frame r f = recount (j + 0) j (omega arith) (posts_append r (missed {m = m₁} f done))

-- as many posts as frames where none is missed
pub all_made : {xs : List (ℕ × List ℕ)} {m m' : Mail} {k : ℕ} (x : Posts xs m k m') → NoneMissed x → k ≡ length xs
all_made done h = refl
all_made (made nf a r) h = let e = all_made r h in omega arith
all_made (missed f r) h = absurd h

-- a box that is full stays so as frames are posted
stays_full : {xs : List (ℕ × List ℕ)} {m m' : Mail} {k : ℕ} (to : ℕ) → Posts xs m k m' → m.full to ≡ true → m'.full to ≡ true
stays_full to done e = e
stays_full to (made nf a r) e = stays_full to r (a.frees_none to e)
stays_full to (missed f r) e = stays_full to r e

-- so none is missed where none is full in the end
pub room_left : {xs : List (ℕ × List ℕ)} {m m' : Mail} {k : ℕ} (x : Posts xs m k m') → ((to : ℕ) → m'.full to ≡ false) → NoneMissed x
room_left done h = tt
room_left (made nf a r) h = room_left r h
room_left (missed {to = to} f r) h = absurd (true≢false (sym (stays_full to r f) ∙ h to))

module _ (P : List ℕ → Type 0) where
  pub appended_kept : (m m' : Mail) (j : ℕ) (b : List ℕ) → P b → Appended m j b m' → Mails P m → Mails P m'
  appended_kept m m' j b p a h x = ⊎_elim
      (λ (e : x ≡ j). subst (λ y. AllByRecursion P (m'.waiting y)) (sym e) (subst (AllByRecursion P) (sym a.own) (All-push P (m.waiting j) b (h j) p)))
      (λ (ne : x ≡ j → ⊥). subst (AllByRecursion P) (sym (a.others x ne)) (h x))
      (cases_eq x j)

  pub taken_kept : (m m' : Mail) (i place : ℕ) → Taken m i place m' → Mails P m → Mails P m'
  taken_kept m m' i place t h x = ⊎_elim
      (λ (e : x ≡ i). subst (λ y. AllByRecursion P (m'.waiting y)) (sym e) (subst (AllByRecursion P) (sym t.own) (All-append P (take place (m.waiting i)) (drop (suc place) (m.waiting i)) (All-take P place (m.waiting i) (h i)) (All-drop P (suc place) (m.waiting i) (h i)))))
      (λ (ne : x ≡ i → ⊥). subst (AllByRecursion P) (sym (t.others x ne)) (h x))
      (cases_eq x i)

  pub posts_kept : {xs : List (ℕ × List ℕ)} {m m' : Mail} {k : ℕ} → Posts xs m k m' → AllByRecursion (λ (q : ℕ × List ℕ). P q.1) xs → Mails P m → Mails P m'
  posts_kept done a h = h
  posts_kept (made {to = to} {frame = frame} {m = m} {m₁ = m₁} nf ap' r) a h = posts_kept r a.1 (appended_kept m m₁ to frame a.0 ap' h)
  posts_kept (missed f r) a h = posts_kept r a.1 h

  pub mails_same : (m m' : Mail) → m' ≡ m → Mails P m → Mails P m'
  mails_same m m' e h = subst (Mails P) (sym e) h
