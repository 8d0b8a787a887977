-- What starting an array posts, worked out by hand.
use Rattle.std.specs.Prelude.{◌≡◌, ℕ, false, List, [], ◌∷◌, length}
use Rattle.history.specs.Worked.{seven}
use Rattle.boxes.specs.Worked.{three}
use Rattle.links.specs.Mail.{Mail}
use Rattle.agreement.specs.Mail.{Posts, NoneMissed}
use Rattle.agreement.specs.Arrays.{Machine, State, starting_posts, SetUp}

-- the token of round 0 of three boxes, of which one may fail
abbrev pub first_frame : List ℕ
first_frame = 0x02 ∷ 0x31 ∷ 0x00 ∷ 0x00 ∷ 0x00 ∷ 0x00 ∷ 0x01 ∷ 0x01 ∷ 0x00 ∷ 0x00 ∷ []

-- the dummy of box 2
abbrev pub dummy_frame : List ℕ
dummy_frame = 0x02 ∷ 0x31 ∷ 0x02 ∷ 0x00 ∷ 0x00 ∷ 0x00 ∷ 0x00 ∷ 0x00 ∷ 0x00 ∷ 0x00 ∷ []

-- Three boxes start with three posts, and seven, of which two may fail, with six.
pub record Worked : Type 0 where
  pub of_three : starting_posts three ≡ (1, first_frame) ∷ (2, first_frame) ∷ (1, dummy_frame) ∷ []
  pub of_seven : length (starting_posts seven) ≡ 6

-- What is posted where no post on the way meets a full box, over any link, fresh or not.
pub record PostsCounted (R : Type 0) : Type 0 where
  -- As many posts are made as there are frames.
  pub all_made : (frames : List (ℕ × List ℕ)) (m : Mail) (posts : ℕ) (m' : Mail) (x : Posts frames m posts m') → NoneMissed x → posts ≡ length frames
  -- None is missed where no box is full in the end, since a post frees no box.
  pub room_left : (frames : List (ℕ × List ℕ)) (m : Mail) (posts : ℕ) (m' : Mail) (x : Posts frames m posts m') → ((to : ℕ) → m'.full to ≡ false) → NoneMissed x
  -- Setting up seven boxes, of which two may fail, makes six.
  pub of_seven : (machine : Machine R) (s : State R) (posts : ℕ) (t : State R) (x : SetUp seven machine s posts t) → NoneMissed x.mail → posts ≡ 6
