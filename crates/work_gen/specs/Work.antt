-- A work: a program, two objects between which it is updated, and a script that runs and updates it.
use Rattle.std.specs.Prelude.{ℕ}
use Rattle.work_gen.specs.declared.types.Work.{Work}
use Rattle.work_gen.specs.Image.{image_file}
use Rattle.work_gen.specs.Objects.{old_object, new_object}
use Rattle.work_gen.specs.Script.{script_file}

-- the work of a number
unfoldable pub work_of : ℕ → Work
work_of number =
    record {
      image = image_file number;
      pre = old_object number;
      post = new_object number;
      script = script_file;
    }
