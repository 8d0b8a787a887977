use Rattle.std.proofs.Common.{[]}
use Rattle.frames.specs.Contents.Content.{token}
use Rattle.writing.specs.Parted.{a_token}
use Rattle.ring.proofs.Writing.{accepted, long, front}
use Rattle.ring.proofs.write_empty.Goals as goal

pub unwrap-requires : goal.unwrap-requires
unwrap-requires c = accepted _ (token (a_token c.args.sender c.args.stamp c.args.votes [] [] [])) _ _ _ c.write_token.ensures c.requires.room c.requires.lawful

pub returns : goal.returns
returns c =
    let empty = token (a_token c.args.sender c.args.stamp c.args.votes [] [] []) in
    record {
      long = long _ empty _ _ _ c.write_token.ensures c.requires.room c.requires.lawful _ c.unwrap.ensures;
      buffer = front _ empty _ _ _ c.write_token.ensures c.requires.room c.requires.lawful;
    }
