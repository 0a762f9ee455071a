-- The files that a line loads.
use Rattle.std.specs.Prelude.{List, take}
use Rattle.ks_io.specs.declared.types.Wanted.{Wanted}
use Rattle.ksplice_session.specs.declared.types.Loads.{Loads}

abbrev pub wanted_by : Loads → List Wanted
wanted_by loads = take loads.count loads.files
