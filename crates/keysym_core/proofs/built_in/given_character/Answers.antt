use Rattle.std.proofs.Common.{length, ◌≡◌, ◌≢◌, ◌∙◌, ap, sym, rules, None, Some, slice_get, get_or, refl, ◌≤◌, ◌<◌}
use Rattle.std.proofs.lemmas.Option.{slice_get_past, slice_get_read}
use Rattle.keysym_core.specs.Places.{index_of, keysym_hash}
use Rattle.keysym_core.specs.declared.built_in_characters.TheConstants.{CHARACTERS}
use Rattle.keysym_core.specs.declared.built_in_places.TheConstants.{CHARACTER_SHIFTS, CHARACTER_INDEXES}
use Rattle.keysym_core.proofs.BuiltInFacts.{character_place}
use Rattle.keysym_core.proofs.BuiltInFound.{character_none, character_other, character_same}
use Rattle.keysym_core.proofs.built_in.given_character.Goals as goal

pub returns-in_err-known : goal.returns-in_err-known
returns-in_err-known c =
    let place : c.index_of.result ≡ character_place c.args.keysym = c.index_of.ensures ∙ ap (index_of CHARACTER_SHIFTS CHARACTER_INDEXES) (c.keysym_hash-hash.ensures ∙ ap keysym_hash c.value.ensures.same) in
    let past : length CHARACTERS ≤ c.index_of.result = search rules in
    let none : slice_get CHARACTERS c.index_of.result ≡ None = slice_get_past CHARACTERS c.index_of.result past in
    c.from_residual.ensures ∙ sym (character_none c.args.keysym c.index_of.result place none)

pub returns-then-known-value : goal.returns-then-known-value
returns-then-known-value c =
    let place : c.index_of.result ≡ character_place c.args.keysym = c.index_of.ensures ∙ ap (index_of CHARACTER_SHIFTS CHARACTER_INDEXES) (c.keysym_hash-hash.ensures ∙ ap keysym_hash c.value.ensures.same) in
    let inside : c.index_of.result < length CHARACTERS = search rules in
    let value : c.in_ok-known.field-0.now ≡ get_or CHARACTERS c.index_of.result c.in_ok-known.field-0.now = search rules in
    let there : slice_get CHARACTERS c.index_of.result ≡ Some c.in_ok-known.field-0.now = slice_get_read CHARACTERS (length CHARACTERS) c.index_of.result c.in_ok-known.field-0.now refl inside value in
    let other : c.in_ok-known.field-0.now.0 ≢ c.args.keysym = λ e. c.if-known-value.true (e ∙ sym c.value-2.ensures.same) in
    sym (character_other c.args.keysym c.index_of.result c.in_ok-known.field-0.now place there other)

pub returns : goal.returns
returns c =
    let place : c.index_of.result ≡ character_place c.args.keysym = c.index_of.ensures ∙ ap (index_of CHARACTER_SHIFTS CHARACTER_INDEXES) (c.keysym_hash-hash.ensures ∙ ap keysym_hash c.value.ensures.same) in
    let inside : c.index_of.result < length CHARACTERS = search rules in
    let value : c.in_ok-known.field-0.now ≡ get_or CHARACTERS c.index_of.result c.in_ok-known.field-0.now = search rules in
    let there : slice_get CHARACTERS c.index_of.result ≡ Some c.in_ok-known.field-0.now = slice_get_read CHARACTERS (length CHARACTERS) c.index_of.result c.in_ok-known.field-0.now refl inside value in
    sym (character_same c.args.keysym c.index_of.result c.in_ok-known.field-0.now place there (c.if-known-value.false ∙ c.value-2.ensures.same))
