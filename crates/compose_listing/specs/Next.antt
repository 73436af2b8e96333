-- The keys that can follow some keys, and what each leads to (this project's profile).
use Rattle.std.specs.Prelude.{ℕ, nat_eq, if◌then◌else◌, List, [], ◌∷◌, ◌++◌, flat_map, Option, Some, None, codes}
use Rattle.std.specs.Fmt.{decimal}
use Rattle.keysym_core.specs.Names.{KeysymNames}
use Rattle.keysym_core.specs.Printed.{printed}
use Rattle.compose_model.specs.Table.{Definition, text_at}
use Rattle.compose_model.specs.Nodes.{edges}
use Rattle.compose_diff.specs.Json.{json_string}
use Rattle.compose_lookup.specs.Lookup.{count_after}
use Rattle.compose_listing.specs.Line.{result_text}
use Rattle.compose_listing.specs.declared.form.ListForm.{ListForm}
use Rattle.compose_listing.specs.declared.form.ListForm.TheVariants.{Lines, Json}

-- singular for one
abbrev pub sequences_word : ℕ → List ℕ
sequences_word n = if nat_eq n 1 then codes " sequence" else codes " sequences"

-- a key after `<`, and what follows it
abbrev pub key_text : List ℕ → List ℕ → List ℕ
key_text key behind = codes "<" ++ (key ++ behind)

-- for example `<e> : "é"` if the key ends a sequence, and otherwise `<apostrophe> .. 61 sequences`
abbrev pub leads_line : List ℕ → Option (List ℕ) → ℕ → List ℕ
leads_line key (Some text) n = key_text key (codes "> : ") ++ result_text text
leads_line key None n = key_text key (codes "> .. ") ++ (decimal n ++ sequences_word n)

-- the beginning of an object: `{"key":` and the key
abbrev pub key_member : List ℕ → List ℕ
key_member key = codes "{\"key\":" ++ json_string key

-- for example `{"key":"e","text":"é","sequences":null}`, or
-- `{"key":"apostrophe","text":null,"sequences":61}`
abbrev pub leads_object : List ℕ → Option (List ℕ) → ℕ → List ℕ
leads_object key (Some text) n = key_member key ++ (codes ",\"text\":" ++ (json_string text ++ codes ",\"sequences\":null}"))
leads_object key None n = key_member key ++ (codes ",\"text\":null,\"sequences\":" ++ (decimal n ++ codes "}"))

abbrev pub leads : ListForm → List ℕ → Option (List ℕ) → ℕ → List ℕ
leads Lines = leads_line
leads Json = leads_object

-- what the key k leads to after these keys, and a newline (code 10): a text, or the number of
-- sequences that go on
abbrev pub next_line : ListForm → KeysymNames → List Definition → List ℕ → ℕ → List ℕ
next_line form names table keys k = leads form (printed names k) (text_at table (keys ++ k ∷ [])) (count_after table (keys ++ k ∷ [])) ++ 10 ∷ []

-- a line for each key with which a sequence goes on, in rising order
abbrev pub next_lines : ListForm → KeysymNames → List Definition → List ℕ → List ℕ
next_lines form names table keys = flat_map (next_line form names table keys) (edges table keys)
