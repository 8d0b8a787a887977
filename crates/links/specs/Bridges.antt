-- What a bridge means: the boxes below a number on the first link, the others on the second.
use Rattle.std.specs.Prelude.{◌≡◌, ℕ, cond, MatchBool, nat_lt}
use Rattle.links.specs.declared.bridge.Bridge.{Bridge}
use Rattle.links.specs.Mail.{Mail}

abbrev pub bridged : ℕ → Mail → Mail → Mail
bridged n a b = record {
  waiting = λ x. cond (nat_lt x n) (a.waiting x) (b.waiting x);
  full = λ x. cond (nat_lt x n) (a.full x) (b.full x);
}

abbrev pub bridge_mail : {F S : Type 0} → (F → Mail) → (S → Mail) → Bridge F S → Mail
bridge_mail f s x = bridged x.split (f x.first) (s x.second)

-- the link that has the box changes as said, and the other stays whole
pub record OnItsSide {F S : Type 0} (x : Bridge F S) (to : ℕ) (first : F → F → Type 0) (second : S → S → Type 0) (x' : Bridge F S) : Type 0 where
  pub split : x'.split ≡ x.split
  pub side : MatchBool (nat_lt to x.split) (first x.first x'.first × (x'.second ≡ x.second)) (second x.second x'.second × (x'.first ≡ x.first))
