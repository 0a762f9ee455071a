use Rattle.std.proofs.Common.{◌≡◌, map, take, string_bytes}
use Rattle.ks_io.specs.Loads.{needed_by}
use Rattle.ksplice_calls.specs.Calls.{needed_object}
use Rattle.ksplice_calls.proofs.linking.wanted_objects.Given as goal

-- the files so far are those of the names so far
abbrev pub invariant-loop-name : goal.invariant-loop-name
invariant-loop-name l =
    map needed_by l.wanted.items ≡ map needed_object (map string_bytes (take l.name-index l.objects))
