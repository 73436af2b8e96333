-- What the file of a table keeps.
use Rattle.std.proofs.Common.{◌≡◌, ◌∙◌, refl, sym, ap, subst, ℕ, List, [], ◌∷◌, Bool, true, false, cond}
use Rattle.std.specs.Prelude.{Option, Some, None, ◌&&◌, codes}
use Rattle.std.specs.Str.{bytes_eq}
use Rattle.std.proofs.lemmas.Option.{same_Some}
use Rattle.std.proofs.lemmas.Slice.Eq.{bytes_eq-Decides}
use Rattle.compose_model.specs.declared.Rule.{Rule}
use Rattle.compose_model.specs.declared.Rule.TheVariants.{Longest, Refuse}
use Rattle.compose_read.specs.Lines.{Source}
use Rattle.compose_bundle.specs.Bundle.{Bundle, IsBundle}
use Rattle.compose_bundle.proofs.OneBundle.{one}
use Rattle.compose_table_file.specs.TableFile.{TableFile, AreKeysyms, FileHas, Keeps, file_of, first_bytes, fresh_bytes, mark, parts, rule_marked, rule_named}
use Rattle.compose_table_file.proofs.Keysyms.{same_keysyms}

-- ---- the file of a table keeps that table alone

-- the mark of a rule marks that rule
marked : (t : TableFile) → rule_marked mark (file_of t).sources ≡ Some t.rule
marked t = go t.rule
  where
    go : (rule : Rule) → rule_named mark (mark rule) ≡ Some rule
    go Longest = refl
    go Refuse = refl

same_table : (a b : TableFile) → a.rule ≡ b.rule → a.repertoire ≡ b.repertoire → a.names ≡ b.names → a.fresh ≡ b.fresh → a.payload ≡ b.payload → a ≡ b
same_table a b rule repertoire names fresh payload =
    ap (λ r. let t : TableFile = record { rule = r; repertoire = a.repertoire; names = a.names; fresh = a.fresh; payload = a.payload } in t) rule
    ∙ ap (λ r. let t : TableFile = record { rule = b.rule; repertoire = r; names = a.names; fresh = a.fresh; payload = a.payload } in t) repertoire
    ∙ ap (λ r. let t : TableFile = record { rule = b.rule; repertoire = b.repertoire; names = r; fresh = a.fresh; payload = a.payload } in t) names
    ∙ ap (λ r. let t : TableFile = record { rule = b.rule; repertoire = b.repertoire; names = b.names; fresh = r; payload = a.payload } in t) fresh
    ∙ ap (λ r. let t : TableFile = record { rule = b.rule; repertoire = b.repertoire; names = b.names; fresh = b.fresh; payload = r } in t) payload

-- tables with the same file are the same
same_file : (a b : TableFile) → AreKeysyms a.fresh → AreKeysyms b.fresh → file_of a ≡ file_of b → a ≡ b
same_file a b ka kb e =
    let both : (a.names, fresh_bytes a.fresh) ≡ (b.names, fresh_bytes b.fresh) =
    same_Some (a.names, fresh_bytes a.fresh) (b.names, fresh_bytes b.fresh) (ap (λ (x : Bundle). parts x.sources) e) in
    same_table a b (same_Some a.rule b.rule (sym (marked a) ∙ ap (λ (x : Bundle). rule_marked mark x.sources) e ∙ marked b)) (ap (λ (x : Bundle). first_bytes x.sources) e)
    (ap (λ (p : List ℕ × List ℕ). p.0) both) (same_keysyms a.fresh b.fresh ka kb (ap (λ (p : List ℕ × List ℕ). p.1) both)) (ap (λ (x : Bundle). x.certificate) e)

pub kept : (bytes : List ℕ) (table found : TableFile) → AreKeysyms table.fresh → IsBundle bytes (file_of table) → FileHas bytes found → found ≡ table
kept bytes table found keysyms is (b, other, keeps) =
    let same : b ≡ file_of table = one bytes b (file_of table) other is in
    let now : Keeps (Some table.rule) bytes b found = subst (λ r. Keeps r bytes b found) (ap (λ (x : Bundle). rule_marked mark x.sources) same ∙ marked table) keeps in
    sym (same_file table found keysyms now.0 (sym same ∙ now.1))

-- ---- the file that has the parts of a table

name_of : (name : List ℕ) (rule : Rule) → rule_named mark name ≡ Some rule → name ≡ mark rule
name_of name rule h = go (bytes_eq name (mark Longest)) (bytes_eq name (mark Refuse)) refl refl h
  where
    go : (l r : Bool) → bytes_eq name (mark Longest) ≡ l → bytes_eq name (mark Refuse) ≡ r → cond l (Some Longest) (cond r (Some Refuse) None) ≡ Some rule → name ≡ mark rule
    go true r el er e = (bytes_eq-Decides name (mark Longest)).0 el ∙ ap mark (same_Some Longest rule e)
    go false true el er e = (bytes_eq-Decides name (mark Refuse)).0 er ∙ ap mark (same_Some Refuse rule e)
    go false false el er e = cc

two_parts : (n f : Source) (names fresh : List ℕ)
    → cond {A = Option (List ℕ × List ℕ)} (bytes_eq n.name (codes "names") && bytes_eq f.name (codes "fresh")) (Some (n.bytes, f.bytes)) None ≡ Some (names, fresh)
    → (n ≡ record { name = codes "names"; bytes = names }) × (f ≡ record { name = codes "fresh"; bytes = fresh })
two_parts n f names fresh h = go (bytes_eq n.name (codes "names")) (bytes_eq f.name (codes "fresh")) refl refl h
  where
    source : (s : Source) (name bytes : List ℕ) → s.name ≡ name → s.bytes ≡ bytes → s ≡ record { name = name; bytes = bytes }
    source s name bytes e d =
        ap (λ x. let t : Source = record { name = x; bytes = s.bytes } in t) e ∙ ap (λ x. let t : Source = record { name = name; bytes = x } in t) d

    go : (a b : Bool) → bytes_eq n.name (codes "names") ≡ a → bytes_eq f.name (codes "fresh") ≡ b → cond {A = Option (List ℕ × List ℕ)} (a && b) (Some (n.bytes, f.bytes)) None ≡ Some (names, fresh)
        → (n ≡ record { name = codes "names"; bytes = names }) × (f ≡ record { name = codes "fresh"; bytes = fresh })
    go true true ea eb e =
        let found : List ℕ × List ℕ = (n.bytes, f.bytes) in
        let given : List ℕ × List ℕ = (names, fresh) in
        let both : found ≡ given = same_Some found given e in (
          source n (codes "names") names ((bytes_eq-Decides n.name (codes "names")).0 ea) (ap (λ (p : List ℕ × List ℕ). p.0) both),
          source f (codes "fresh") fresh ((bytes_eq-Decides f.name (codes "fresh")).0 eb) (ap (λ (p : List ℕ × List ℕ). p.1) both),
        )
    go true false ea eb e = cc
    go false true ea eb e = cc
    go false false ea eb e = cc

-- sources that mark the rule and have the parts of a table are those of its file
pub sources_of : (sources : List Source) (t : TableFile) → rule_marked mark sources ≡ Some t.rule → first_bytes sources ≡ t.repertoire → parts sources ≡ Some (t.names, fresh_bytes t.fresh)
    → sources ≡ (file_of t).sources
sources_of [] t m r p = cc
sources_of (s ∷ []) t m r p = cc
sources_of (s ∷ n ∷ []) t m r p = cc
sources_of (s ∷ n ∷ f ∷ []) t m r p =
    let two = two_parts n f t.names (fresh_bytes t.fresh) p in
    ap (λ x. let y : Source = record { name = x; bytes = s.bytes } in y ∷ n ∷ f ∷ []) (name_of s.name t.rule m)
    ∙ ap (λ x. let y : Source = record { name = mark t.rule; bytes = x } in y ∷ n ∷ f ∷ []) r
    ∙ ap (λ x. let y : Source = record { name = mark t.rule; bytes = t.repertoire } in y ∷ x ∷ f ∷ []) two.0
    ∙ ap (λ x. let y : Source = record { name = mark t.rule; bytes = t.repertoire } in let z : Source = record { name = codes "names"; bytes = t.names } in y ∷ z ∷ x ∷ []) two.1
sources_of (s ∷ n ∷ f ∷ (x ∷ more)) t m r p = cc

-- a bundle with these parts keeps the table
pub has_parts : (bytes : List ℕ) (sources : List Source) (t : TableFile) → IsBundle bytes (record { sources = sources; certificate = t.payload }) → rule_marked mark sources ≡ Some t.rule
    → first_bytes sources ≡ t.repertoire → parts sources ≡ Some (t.names, fresh_bytes t.fresh) → AreKeysyms t.fresh → FileHas bytes t
has_parts bytes sources t is m r p keysyms = (
  record { sources = sources; certificate = t.payload },
  is,
  subst (λ x. Keeps x bytes (record { sources = sources; certificate = t.payload }) t) (sym m)
      (keysyms, ap (λ x. let b : Bundle = record { sources = x; certificate = t.payload } in b) (sources_of sources t m r p)),
)
