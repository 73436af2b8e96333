use Rattle.std.proofs.Common.{◌≡◌, take, map}
use Rattle.compose_given.specs.Reads.{AreTexts, texts_of}
use Rattle.compose_given.proofs.reading.read_texts.Given as goal

-- the files so far are read
abbrev pub invariant-loop-path : goal.invariant-loop-path
invariant-loop-path g l = record {
  kept : l.files.holds ≡ l.fn.files.holds;
  read : AreTexts l.fn.files.holds (map (λ path. path.now) (take l.path-index l.paths)) (texts_of l.texts.items);
}
