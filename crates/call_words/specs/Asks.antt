-- What a command asks for, as the words' reading says it.
use Rattle.std.specs.Prelude.{map, string_bytes}
use Rattle.call_words.specs.declared.command.Command.{Command}
use Rattle.call_words.specs.declared.command.Command.TheVariants as commands
use Rattle.call_words.specs.Words.{Asked, Diff, Code, Match, Run, Gen, Link}

abbrev pub asked_by : Command → Asked
asked_by (commands.Diff pre post) = Diff pre.now post.now
asked_by (commands.Code image name) = Code image.now name.now
asked_by (commands.Match image pre) = Match image.now pre.now
asked_by (commands.Run image script) = Run image.now script.now
asked_by (commands.Gen number) = Gen number
asked_by (commands.Link objects) = Link (map string_bytes objects.now)
