use Rattle.std.proofs.Common.{◌≡◌, drop}
use Rattle.ks_io.specs.Loads.{bytes_of}
use Rattle.ksplice_calls.specs.Linking.{sections_of_all}
use Rattle.ksplice_calls.proofs.ObjectsRead.{after_those}
use Rattle.ksplice_calls.proofs.linking.read_all.Given as goal

-- the objects so far, and what the others come to, are what all come to
abbrev pub invariant-loop-object : goal.invariant-loop-object
invariant-loop-object l =
    after_those l.read (sections_of_all (bytes_of (drop l.object-index l.objects)))
    ≡ sections_of_all (bytes_of l.objects)
