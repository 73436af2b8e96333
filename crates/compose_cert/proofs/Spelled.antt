-- A text written line by line spells its certificate.
use Rattle.std.proofs.Common.{◌≡◌, ℕ, ◌<◌, ◌^◌, List, [], ◌∷◌, ◌++◌, length, map, true, ◌&&◌, refl, sym, ◌∙◌, ap, append_assoc, lt-ltb}
use Rattle.std.specs.Prelude.{nat_lt, nat_le, codes}
use Rattle.std.specs.List.{list_all}
use Rattle.std.proofs.lemmas.Bool.{and_parts, and_from}
use Rattle.keysym_core.specs.Keysym.{is_keysym}
use Rattle.compose_model.specs.Certificate.{Typing, Certificate}
use Rattle.compose_cert.specs.Spelling.{counted, pair_text, typing_text, version_line, fresh_lines, text_of, ended, max_count, is_number, are_numbers, is_character, is_spelled, is_typed, is_typing, are_counted, is_counted, is_certificate}
use Rattle.compose_cert.proofs.Written.{ended-append}

-- a typing whose parts are in order and counted is a typing
all_typings : (ts : List Typing) → list_all is_spelled ts ≡ true → list_all is_typed ts ≡ true → list_all is_typing ts ≡ true
all_typings [] s t = refl
all_typings (x ∷ ts) s t =
    let a = and_parts (is_spelled x) (list_all is_spelled ts) s in
    let b = and_parts (is_typed x) (list_all is_typed ts) t in
    let p = and_parts (is_character x.character) (list_all is_keysym x.keys) a.0 in
    let q = and_parts (nat_lt 0 (length x.keys)) (nat_le (length x.keys) max_count) b.0 in
    let one = and_from (is_character x.character && nat_lt 0 (length x.keys) && nat_le (length x.keys) max_count) (list_all is_keysym x.keys)
    (and_from (is_character x.character && nat_lt 0 (length x.keys)) (nat_le (length x.keys) max_count) (and_from (is_character x.character) (nat_lt 0 (length x.keys)) p.0 q.0) q.1) p.1 in
    and_from (is_typing x) (list_all is_typing ts) one (all_typings ts a.1 b.1)

-- counted parts that are numbers, typings and keysyms are a certificate
pub certificate_from_parts : (c : Certificate) → is_counted c ≡ true → c.bound < 2 ^ 32 → list_all are_numbers c.pairs ≡ true → list_all is_spelled c.typings ≡ true → list_all is_keysym c.fresh ≡ true
    → is_certificate c ≡ true
certificate_from_parts c n b ps ts fs =
    let a = and_parts (are_counted c.pairs c.typings) (nat_le (length c.fresh) max_count) n in
    let d = and_parts (nat_le (length c.pairs) max_count && nat_le (length c.typings) max_count) (list_all is_typed c.typings) a.0 in
    let e = and_parts (nat_le (length c.pairs) max_count) (nat_le (length c.typings) max_count) d.0 in
    let x1 = is_number c.bound in
    let x2 = x1 && nat_le (length c.pairs) max_count in
    let x3 = x2 && list_all are_numbers c.pairs in
    let x4 = x3 && nat_le (length c.typings) max_count in
    let x5 = x4 && list_all is_typing c.typings in
    let x6 = x5 && nat_le (length c.fresh) max_count in
    and_from x6 (list_all is_keysym c.fresh)
    (and_from x5 (nat_le (length c.fresh) max_count)
    (and_from x4 (list_all is_typing c.typings)
    (and_from x3 (nat_le (length c.typings) max_count)
    (and_from x2 (list_all are_numbers c.pairs)
    (and_from x1 (nat_le (length c.pairs) max_count) (lt-ltb c.bound 0x100000000 b) e.0) ps) e.1) (all_typings c.typings ts d.1)) a.1) fs

-- the four parts of the text, one after another
pub parts_are_text : (head pairs typings whole : List ℕ) (c : Certificate)
    → head ≡ ended (version_line c.fresh ∷ counted (codes "bound") c.bound ∷ counted (codes "pairs") (length c.pairs) ∷ [])
    → pairs ≡ head ++ ended (map pair_text c.pairs)
    → typings ≡ pairs ++ ended (counted (codes "typings") (length c.typings) ∷ map typing_text c.typings)
    → whole ≡ typings ++ ended (fresh_lines c.fresh) → whole ≡ text_of c
parts_are_text head pairs typings whole c h p t w =
    let first = version_line c.fresh ∷ counted (codes "bound") c.bound ∷ counted (codes "pairs") (length c.pairs) ∷ [] in
    let second = map pair_text c.pairs in
    let third = counted (codes "typings") (length c.typings) ∷ map typing_text c.typings in
    let joined : ended (first ++ (second ++ (third ++ fresh_lines c.fresh))) ≡ ended first ++ (ended second ++ (ended third ++ ended (fresh_lines c.fresh))) =
    ended-append first (second ++ (third ++ fresh_lines c.fresh))
    ∙ ap (λ text. ended first ++ text) (ended-append second (third ++ fresh_lines c.fresh) ∙ ap (λ text. ended second ++ text) (ended-append third (fresh_lines c.fresh))) in
    let grouped : ((ended first ++ ended second) ++ ended third) ++ ended (fresh_lines c.fresh) ≡ ended first ++ (ended second ++ (ended third ++ ended (fresh_lines c.fresh))) = simp append_assoc in
    w ∙ ap (λ text. text ++ ended (fresh_lines c.fresh)) (t ∙ ap (λ text. text ++ ended third) (p ∙ ap (λ text. text ++ ended second) h)) ∙ grouped ∙ sym joined
