-- Certificates and repertoires, worked out.
use Rattle.std.proofs.Common.{◌≡◌, ℕ, List, [], ◌∷◌, ◌++◌, refl}
use Rattle.std.specs.Prelude.{Ok, Err, codes, take, length, ◌-◌}
use Rattle.std.specs.Fmt.{digits}
use Rattle.std.specs.Str.{is_utf8, chars}
use Rattle.std.specs.Char.{encode_utf8}
use Rattle.compose_cert.specs.Spelling.{text_of, ended}
use Rattle.compose_model.specs.Certificate.{Certificate}
use Rattle.compose_cert.specs.Reading.{certificate_of}
use Rattle.compose_cert.specs.Repertoire.{repertoire_of}
use Rattle.compose_cert.specs.declared.CertFault.TheVariants.{NotText, TooLarge}
use Rattle.compose_cert.specs.declared.RepertoireFault.TheVariants.{BadLine, NotRising}

-- ---- a certificate with two typings

abbrev typed : Certificate
typed = record {
  bound = 2;
  pairs = (0, 0) ∷ (1, 1) ∷ (2, 2) ∷ (3, 3) ∷ [];
  typings = record { character = 0xe1; keys = 0xff20 ∷ 0x27 ∷ 0x61 ∷ [] } ∷ record { character = 0xe9; keys = 0xfe51 ∷ 0x65 ∷ [] } ∷ [];
  fresh = [];
}

abbrev typed_text : List ℕ
typed_text = ended (codes "compose-certificate 1" ∷ codes "bound 2" ∷ codes "pairs 4" ∷ codes "0 0" ∷ codes "1 1"
    ∷ codes "2 2" ∷ codes "3 3" ∷ codes "typings 2" ∷ codes "U+00E1 ff20 27 61" ∷ codes "U+00E9 fe51 65" ∷ [])

typed_written : text_of typed ≡ typed_text
unfolding digits
typed_written = refl

typed_read : certificate_of typed_text ≡ Ok typed
unfolding digits
typed_read = refl

leading_zero : certificate_of (ended (codes "compose-certificate 1" ∷ codes "bound 02" ∷ [])) ≡ Err (NotText 2)
unfolding digits
leading_zero = refl

no_last_newline : certificate_of (take (length typed_text - 1) typed_text) ≡ Err (NotText 10)
unfolding digits
no_last_newline = refl

too_many_pairs : certificate_of (ended (codes "compose-certificate 1" ∷ codes "bound 2" ∷ codes "pairs 1048577" ∷ [])) ≡ Err TooLarge
unfolding digits
too_many_pairs = refl

-- ---- a certificate without typings

abbrev four_pairs : List ℕ → List ℕ → List ℕ
four_pairs bound more = ended (codes "compose-certificate 1" ∷ bound ∷ codes "pairs 4" ∷ codes "0 0" ∷ codes "1 0" ∷ codes "2 1" ∷ codes "3 1" ∷ codes "typings 0" ∷ []) ++ more

greatest_bound : certificate_of (four_pairs (codes "bound 4294967295") []) ≡ Ok (record { bound = 4294967295; pairs = (0, 0) ∷ (1, 0) ∷ (2, 1) ∷ (3, 1) ∷ []; typings = []; fresh = [] })
unfolding digits
greatest_bound = refl

bound_too_great : certificate_of (four_pairs (codes "bound 4294967296") []) ≡ Err (NotText 2)
unfolding digits
bound_too_great = refl

line_after : certificate_of (four_pairs (codes "bound 1") (codes "typings 0" ++ 10 ∷ [])) ≡ Err (NotText 9)
unfolding digits
line_after = refl

extra_newline : certificate_of (four_pairs (codes "bound 1") (10 ∷ [])) ≡ Err (NotText 9)
unfolding digits
extra_newline = refl

-- ---- fresh keysyms

abbrev with_fresh : Certificate
with_fresh = record { bound = 2; pairs = (0, 0) ∷ (1, 2) ∷ (2, 3) ∷ []; typings = []; fresh = 0xfe5a ∷ [] }

abbrev fresh_text : List ℕ → List (List ℕ) → List ℕ
fresh_text version more = ended (version ∷ codes "bound 2" ∷ codes "pairs 3" ∷ codes "0 0" ∷ codes "1 2" ∷ codes "2 3" ∷ codes "typings 0" ∷ more)

fresh_written : text_of with_fresh ≡ fresh_text (codes "compose-certificate 2") (codes "fresh 1" ∷ codes "fe5a" ∷ [])
unfolding digits
fresh_written = refl

fresh_read : certificate_of (fresh_text (codes "compose-certificate 2") (codes "fresh 1" ∷ codes "fe5a" ∷ [])) ≡ Ok with_fresh
unfolding digits
fresh_read = refl

no_fresh : certificate_of (fresh_text (codes "compose-certificate 2") (codes "fresh 0" ∷ [])) ≡ Err (NotText 8)
unfolding digits
no_fresh = refl

fresh_in_version_1 : certificate_of (fresh_text (codes "compose-certificate 1") (codes "fresh 1" ∷ codes "fe5a" ∷ [])) ≡ Err (NotText 8)
unfolding digits
fresh_in_version_1 = refl

-- ---- repertoires

falling : repertoire_of (ended (codes "U+00E9" ∷ codes "U+00E1" ∷ [])) ≡ Err (NotRising 2)
unfolding is_utf8 chars encode_utf8
falling = refl

surrogate : repertoire_of (codes "U+D800") ≡ Err (BadLine 1)
unfolding is_utf8 chars encode_utf8
surrogate = refl

keys_behind : repertoire_of (ended (codes "U+00E1" ∷ codes "keys 0x61 0x7a" ∷ [])) ≡ Err (BadLine 2)
unfolding is_utf8 chars encode_utf8
keys_behind = refl

turned_range : repertoire_of (codes "keys 0x7a 0x61") ≡ Err (BadLine 1)
unfolding is_utf8 chars encode_utf8
turned_range = refl

empty_file : repertoire_of [] ≡ Ok (record { characters = []; keys = [] })
empty_file = refl

overlapping : repertoire_of (ended (codes "keys 0x61 0x7a" ∷ codes "keys 0x7a 0x7b" ∷ [])) ≡ Err (NotRising 2)
unfolding is_utf8 chars encode_utf8
overlapping = refl

read_whole : repertoire_of (ended (codes " keys  0x20 0x7E # x" ∷ codes "# y" ∷ [] ∷ codes "U+00e1" ∷ [])) ≡ Ok (record { characters = 0xe1 ∷ []; keys = (0x20, 0x7e) ∷ [] })
unfolding is_utf8 chars encode_utf8
read_whole = refl
