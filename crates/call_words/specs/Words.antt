-- What the words of a call ask for.
use Rattle.std.specs.Prelude.{ℕ, Bool, false, ◌&&◌, ◌==◌, nat_le, if◌then◌else◌, List, [], ◌∷◌, codes, length}
use Rattle.std.specs.Prelude.{Option, Some, None, option_map}
use Rattle.std.specs.List.{list_any}
use Rattle.std.specs.Str.{bytes_eq}
use Rattle.script_lines.specs.Numbers.{numeral}

-- a command, with its words
pub data Asked : Type 0 where
  Diff : (pre post : List ℕ) → Asked
  Code : (image name : List ℕ) → Asked
  Match : (image pre : List ℕ) → Asked
  Run : (image script : List ℕ) → Asked
  Gen : (number : ℕ) → Asked
  Link : (objects : List (List ℕ)) → Asked

-- a word that begins with a dash is an option, and there are none
abbrev pub begins_with_dash : List ℕ → Bool
begins_with_dash [] = false
begins_with_dash (first ∷ rest) = first == 45

-- what exactly two words ask for
abbrev pub two_words : (List ℕ → List ℕ → Asked) → List (List ℕ) → Option Asked
two_words asked (first ∷ second ∷ []) = Some (asked first second)
two_words asked _ = None

-- one word, a number of one to ten decimal digits below 2 to the 32nd
abbrev pub number_word : List (List ℕ) → Option Asked
number_word (number ∷ []) = option_map Gen (numeral 10 10 number)
number_word _ = None

-- one to sixteen words
abbrev pub object_words : List (List ℕ) → Option Asked
object_words words = if nat_le 1 (length words) && nat_le (length words) 16 then Some (Link words) else None

-- what a command of this name asks for with the words that follow
abbrev pub command_by : List ℕ → List (List ℕ) → Option Asked
command_by name words =
    if bytes_eq name (codes "diff") then two_words Diff words
    else (if bytes_eq name (codes "code") then two_words Code words
    else (if bytes_eq name (codes "match") then two_words Match words
    else (if bytes_eq name (codes "run") then two_words Run words
    else (if bytes_eq name (codes "gen") then number_word words
    else (if bytes_eq name (codes "link") then object_words words else None)))))

-- a command's name, and exactly its words
abbrev pub command_of : List (List ℕ) → Option Asked
command_of [] = None
command_of (name ∷ words) = command_by name words

-- the words' reading, if they have one
unfoldable pub reading : List (List ℕ) → Option Asked
reading words = if list_any begins_with_dash words then None else command_of words
