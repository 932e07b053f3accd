-- How many lines a reader has read.
use Rattle.std.specs.Prelude.{◌≡◌, ◌+◌, ◌≤◌, length}
use Rattle.script_words.specs.declared.reader.Reader.{Reader}
use Rattle.script_words.specs.Lines.{lines_of}

-- lines were read, and none was lost
pub record Advances (old new : Reader) : Type 0 where
  pub later : old.number ≤ new.number
  pub same : new.number + length (lines_of new.rest) ≡ old.number + length (lines_of old.rest)
