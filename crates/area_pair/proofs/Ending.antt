-- What the chosen area is read as.
use Rattle.std.proofs.Common.{◌≡◌, ℕ, Some, Result, Ok, Err, ◌∙◌, ap}
use Rattle.ws_outside.specs.declared.contents.Contents.{Contents}
use Rattle.ws_outside.specs.declared.contents.Which.{Which}
use Rattle.ws_outside.specs.Disk.{held}
use Rattle.disk_area.specs.declared.bodies.Area.{Area}
use Rattle.disk_area.specs.Reading.{Place, area_of}
use Rattle.area_pair.specs.Reads.{texts_in, with_end}
use Rattle.area_pair.specs.Found.{ended_by, TellsEnd}

pub ended_tells : (both : Contents) (area : Which) (whole : Area) (e : Result ℕ Place) → whole.end ≡ e → area_of (held area both) ≡ Ok (Some whole) → TellsEnd both (Some area) (ended_by area whole e)
ended_tells both area whole (Ok gate) is told =
    (whole.number, told ∙ ap (λ k. Ok (Some (let a : Area = record { number = whole.number; image = whole.image; records = whole.records; end = k } in a))) is)
ended_tells both area whole (Err place) is told = ap (texts_in area) told ∙ ap (with_end area whole) is
