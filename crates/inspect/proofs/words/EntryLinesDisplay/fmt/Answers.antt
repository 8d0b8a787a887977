use Rattle.std.proofs.Common.{true, ◌++◌, refl}
use Rattle.std.proofs.Output.{has_written_append}
use Rattle.parts.specs.Going.{entries_of}
use Rattle.inspect.specs.Telling.{entry_line, entry_lines, prefix_of}
use Rattle.inspect.proofs.More.{entry_told}
use Rattle.inspect.proofs.words.EntryLinesDisplay.fmt.Goals as goal

pub loop-entry-preserved : goal.loop-entry-preserved
loop-entry-preserved g c = λ plain.
    let so_far = c.loop-entry.invariant plain in
    let prefix = prefix_of c.args.self.now.role in
    let line = entry_line prefix c.in-Some.entry in (
      so_far.0 ++ line,
      has_written_append g.W.Write.write_str_gives c.args.f.now so_far.0 c.loop-entry.f line c.writeln.new.self so_far.1 (c.in_ok-writeln.ensures.writes so_far.1.plain (refl {a = true})),
      entry_told prefix so_far.0 (entry_lines prefix (entries_of c.args.self.now.part.now)) c.in-Some.entry c.loop-entry.entry-iterator c.next.new.self c.in-Some.ensures.steps so_far.2,
    )
