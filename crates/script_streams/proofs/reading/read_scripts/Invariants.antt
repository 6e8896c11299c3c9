use Rattle.std.proofs.Common.{◌≡◌, ◌≤◌, ◌+◌, ◌^◌, length, take}
use Rattle.std.specs.Prelude.{sum_by}
use Rattle.kv_face.specs.Streams.{WhereTold}
use Rattle.script_streams.specs.Asking.{AreGiven}
use Rattle.script_streams.specs.Reading.{AreScripts, AreShort, names_in, texts_in}
use Rattle.script_streams.proofs.reading.read_scripts.Given as goal

abbrev pub invariant-loop-place : goal.invariant-loop-place
invariant-loop-place g l = record {
  read : WhereTold (g.S.Reader.contents l.fn.scripts) (λ told. AreScripts told (take l.place (names_in l.names)) (texts_in l.read.items));
  count : length l.read.items ≡ l.place;
  short : AreShort (texts_in l.read.items);
  room : l.room + sum_by length (texts_in l.read.items) ≡ 2 ^ 28;
  contents : g.S.Reader.contents l.scripts ≡ g.S.Reader.contents l.fn.scripts;
  later : g.S.Reader.faults l.fn.scripts ≤ g.S.Reader.faults l.scripts;
  given : AreGiven g.S.Reader.gives l.fn.scripts (take l.place (names_in l.names)) l.read.items l.scripts;
}
