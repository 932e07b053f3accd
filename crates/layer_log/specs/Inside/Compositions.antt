-- What two changes come to, path by path.
use Rattle.std.specs.Prelude.{◌≡◌, ◌≢◌, Option, Some, None}
use Rattle.std.specs.FinMap.{get}
use Rattle.res_path.specs.Paths.{Names}
use Rattle.layer_log.specs.declared.change.Change.{Change}
use Rattle.layer_log.specs.Records.{Records}

-- a change, after one before it where there is one: from the first entry to the last
abbrev pub one_of : Option Change → Change → Change
one_of None s = s
one_of (Some r) s = record { before = r.before; after = s.after }

-- what is kept of a change: nothing where its entries are equal
abbrev pub Kept : Change → Option Change → Type 0
Kept r None = r.before ≡ r.after
Kept r (Some s) = (s ≡ r) × (r.before ≢ r.after)

-- what is kept of the two changes of one path
abbrev pub Joined : Option Change → Option Change → Option Change → Type 0
Joined None None z = z ≡ None
Joined (Some r) None z = Kept r z
Joined x (Some s) z = Kept (one_of x s) z

-- the changes c are what the first and then the second come to
abbrev pub Composed : Records → Records → Records → Type 0
Composed first second c = (p : Names) → Joined (get first p) (get second p) (get c p)
