use Rattle.agreement.proofs.Mails.{all_made, room_left}
use Rattle.agreement.proofs.posts_counted.Goals as goal

pub returns : goal.returns
returns g c = record {
  all_made = λ frames m posts m' x h. all_made x h;
  room_left = λ frames m posts m' x h. room_left x h;
  of_seven = λ machine s posts t x h. all_made x.mail h;
}
