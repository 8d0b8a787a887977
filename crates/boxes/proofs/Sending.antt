-- What boxes send is lawful, and reads back as it was sent.
use Rattle.std.proofs.Common.{ℕ, ◌-◌, ◌<◌, ◌≤◌, refl, mod-eq_of_lt, arith}
use Rattle.frames.specs.declared.plan.Plan.{Plan}
use Rattle.frames.specs.Contents.{Content, Lawful, LawfulToken}
use Rattle.frames.proofs.Written.{written}
use Rattle.frames.proofs.Room.{fits}
use Rattle.boxes.specs.Calls.{first_token, dummy_of}
use Rattle.boxes.specs.Laws.{Readable, FramesRead}
use Rattle.boxes.proofs.Staying.{next_lawful}

pub readable : (p : Plan) (c : Content) → Lawful p c → Readable p c
readable p c l = record { lawful = l; back = written p c l; room = omega (arith, p.most, (fits p c (omega (arith, p.most)) (omega (arith, p.few)) l).1) }

first_lawful : (p : Plan) → LawfulToken p first_token
first_lawful p = record {
  sender_fits = omega (arith, p.least);
  stamp_fits = omega arith;
  dummy = λ z. absurd (omega arith);
  round = λ _. record { in_turn = mod-eq_of_lt (omega (arith, p.least)); voted = omega arith; votes_fit = p.some; one_vote = λ _. refl };
  proposal_lawful = record { each = tt; ascend = tt };
  decisions_lawful = tt;
  no_id_twice = tt;
}

dummy_lawful : (p : Plan) (j : ℕ) → p.n - p.f ≤ j → j < p.n → LawfulToken p (dummy_of j)
dummy_lawful p j late below = record {
  sender_fits = below;
  stamp_fits = omega arith;
  dummy = λ _. record { late_sender = late; no_votes = refl; no_proposal = refl; no_decisions = refl };
  round = λ ne. absurd (ne refl);
  proposal_lawful = record { each = tt; ascend = tt };
  decisions_lawful = tt;
  no_id_twice = tt;
}

pub frames_read : FramesRead
frames_read = record {
  turns = λ p i b t k e. readable p _ (k.turns t e);
  orders = λ p i b body k l n bytes. readable p _ (next_lawful p i b k body l n bytes);
  first = λ p. readable p _ (first_lawful p);
  dummies = λ p j late below. readable p _ (dummy_lawful p j late below);
}
