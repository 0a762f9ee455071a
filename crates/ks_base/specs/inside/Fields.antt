-- What the fields of a refusal are written as, by their form.
use Rattle.std.specs.Prelude.{ℕ, List, [], ◌++◌, codes}
use Rattle.ks_base.specs.Text.{hex_text, offset_text, number_text, shown_name}
use Rattle.ks_base.specs.Refusals.{busy_text, mismatch_text, conflict_text}
use Rattle.ks_base.specs.declared.fields.Fields.{Fields}
use Rattle.ks_base.specs.declared.fields.Fields.TheVariants as form

abbrev pub fields_text : Fields → List ℕ
fields_text form.Nothing = []
fields_text (form.Word word) = word.now
fields_text (form.Number n) = number_text n
fields_text (form.Numbers a b) = number_text a ++ codes " " ++ number_text b
fields_text (form.NumberAndWord n word) = number_text n ++ codes " " ++ word.now
fields_text (form.NumberAndAddress n a) = number_text n ++ codes " " ++ hex_text a
fields_text (form.Offset offset) = offset_text offset
fields_text (form.Addresses a b) = hex_text a ++ codes " " ++ hex_text b
fields_text (form.Name name) = shown_name name.now
fields_text (form.NameAndNumber name n) = shown_name name.now ++ codes " " ++ number_text n
fields_text (form.NameAndNumbers name a b) = shown_name name.now ++ codes " " ++ number_text a ++ codes " "
    ++ number_text b
fields_text (form.NameAndOffset name offset) = shown_name name.now ++ codes " " ++ offset_text offset
fields_text (form.NameAndAddresses name a b) = shown_name name.now ++ codes " " ++ hex_text a ++ codes " " ++ hex_text b
fields_text (form.NameAndRoom name n) = shown_name name.now ++ codes " room " ++ number_text n
fields_text (form.NameAndField name section offset) = shown_name name.now ++ codes " " ++ shown_name section.now
    ++ codes "+" ++ offset_text offset
fields_text (form.NameAndFault name word pc) = shown_name name.now ++ codes " " ++ word.now ++ codes " " ++ hex_text pc
fields_text (form.Standing standing) = busy_text standing.thread standing.place standing.value
fields_text (form.Difference section difference) = mismatch_text section.now difference
fields_text (form.Values unknown a b at_a at_b) = conflict_text unknown.now a b at_a.now at_b.now
