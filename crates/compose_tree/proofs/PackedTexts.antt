-- The results of look-ups in the entries of texts.
use Rattle.std.proofs.Common.{◌≡◌, ℕ, zero, suc, ◌+◌, ◌*◌, ◌%◌, ◌<◌, ◌≤◌, List, [], ◌∷◌, ◌++◌, true, length, get_or, take, drop, refl, sym, ◌∙◌, ap, arith, length-append}
use Rattle.std.specs.Prelude.{Some}
use Rattle.std.specs.List.{list_all}
use Rattle.std.specs.Str.{is_utf8, IsUtf8}
use Rattle.std.proofs.lemmas.Bool.{and_parts}
use Rattle.std.proofs.lemmas.List.{get_or-map, length-map}
use Rattle.std.proofs.lemmas.Str.{IsUtf8-from_is_utf8}
use Rattle.compose_model.specs.Table.{Definition}
use Rattle.compose_model.specs.Nodes.{leaves}
use Rattle.compose_tree.specs.declared.packed.PackedEdge.{PackedEdge}
use Rattle.compose_tree.specs.declared.packed.PackedNode.{PackedNode}
use Rattle.compose_tree.specs.Targets.{leaf_text}
use Rattle.compose_tree.specs.Packed.{text_entry, texts_of, AreEntries, HasLongText, IsPacked}
use Rattle.compose_model.proofs.Definitions.{text_few, definition_at}
use Rattle.compose_tree.proofs.Lookups.{leaves_count, leaf_text_is}
use Rattle.compose_tree.proofs.Unpacking.{before_read}

-- ---- an entry

-- an entry has four bytes
pub entry_length : (before : ℕ) (text : List ℕ) → length (text_entry before text) ≡ 4
entry_length before [] = refl
entry_length before (a ∷ []) = refl
entry_length before (a ∷ b ∷ []) = refl
entry_length before (a ∷ b ∷ c ∷ []) = refl
entry_length before (a ∷ b ∷ c ∷ d ∷ more) = refl

-- its last byte is the length of the text
pub entry_count : (before : ℕ) (text : List ℕ) (d : ℕ) → get_or (text_entry before text) 3 d ≡ length text
entry_count before [] d = refl
entry_count before (a ∷ []) d = refl
entry_count before (a ∷ b ∷ []) d = refl
entry_count before (a ∷ b ∷ c ∷ []) d = refl
entry_count before (a ∷ b ∷ c ∷ e ∷ more) d = omega arith

-- it begins with a text of at most three bytes
pub entry_short : (before : ℕ) (text : List ℕ) → length text ≤ 3 → take (length text) (text_entry before text) ≡ text
entry_short before [] h = refl
entry_short before (a ∷ []) h = refl
entry_short before (a ∷ b ∷ []) h = refl
entry_short before (a ∷ b ∷ c ∷ []) h = refl
entry_short before (a ∷ b ∷ c ∷ d ∷ more) h = absurd (omega (arith, h))

-- it says where a longer one stands
pub entry_place : (before : ℕ) (text : List ℕ) (x y z : ℕ) → 4 ≤ length text → before % 2 ≡ 0
    → 2 * (get_or (text_entry before text) 0 x + 256 * get_or (text_entry before text) 1 y + 65536 * get_or (text_entry before text) 2 z) ≡ before
entry_place before [] x y z h even = absurd (omega (arith, h))
entry_place before (a ∷ []) x y z h even = absurd (omega (arith, h))
entry_place before (a ∷ b ∷ []) x y z h even = absurd (omega (arith, h))
entry_place before (a ∷ b ∷ c ∷ []) x y z h even = absurd (omega (arith, h))
entry_place before (a ∷ b ∷ c ∷ d ∷ more) x y z h even = before_read before even

take_entry : (before : ℕ) (text rest : List ℕ) → take 4 (text_entry before text ++ rest) ≡ text_entry before text
take_entry before [] rest = refl
take_entry before (a ∷ []) rest = refl
take_entry before (a ∷ b ∷ []) rest = refl
take_entry before (a ∷ b ∷ c ∷ []) rest = refl
take_entry before (a ∷ b ∷ c ∷ d ∷ more) rest = refl

drop_entry : (before : ℕ) (text rest : List ℕ) (n : ℕ) → drop (suc (suc (suc (suc n)))) (text_entry before text ++ rest) ≡ drop n rest
drop_entry before [] rest n = refl
drop_entry before (a ∷ []) rest n = refl
drop_entry before (a ∷ b ∷ []) rest n = refl
drop_entry before (a ∷ b ∷ c ∷ []) rest n = refl
drop_entry before (a ∷ b ∷ c ∷ d ∷ more) rest n = refl

-- ---- the entries of texts

-- there are four bytes for each text
pub entries_count : (texts : List (List ℕ)) (entries long : List ℕ) → AreEntries entries texts long → length entries ≡ 4 * length texts
entries_count [] entries long h = ap length h
entries_count (t ∷ texts) entries long h =
    let n = ap length h.2 ∙ length-append (text_entry h.0 t) h.1 in
    let e = entry_length h.0 t in
    let more = entries_count texts h.1 long h.4 in
    omega (arith, n, e, more)

-- the entry of text i, and what it says
pub record TextPiece (entries long : List ℕ) (i : ℕ) (text : List ℕ) : Type 0 where
  pub before : ℕ
  pub entry : take 4 (drop (4 * i) entries) ≡ text_entry before text
  pub within : 4 * i + 4 ≤ length entries
  pub placed : HasLongText before text long
  pub text_utf8 : IsUtf8 text

text_piece : (texts : List (List ℕ)) (entries long : List ℕ) (i : ℕ) → i < length texts → list_all is_utf8 texts ≡ true → AreEntries entries texts long
    → TextPiece entries long i (get_or texts i [])
text_piece [] entries long i h u a = absurd (omega (arith, h))
text_piece (t ∷ texts) entries long zero h u a = record {
  before = a.0;
  entry = ap (take 4) a.2 ∙ take_entry a.0 t a.1;
  within = (let n = ap length a.2 ∙ length-append (text_entry a.0 t) a.1 in let m = entry_length a.0 t in omega (arith, n, m));
  placed = a.3;
  text_utf8 = IsUtf8-from_is_utf8 t (and_parts (is_utf8 t) (list_all is_utf8 texts) u).0;
}
text_piece (t ∷ texts) entries long (suc i) h u a =
    let q = text_piece texts a.1 long i (omega (arith, h)) (and_parts (is_utf8 t) (list_all is_utf8 texts) u).1 a.4 in
    let x : 4 * suc i ≡ suc (suc (suc (suc (4 * i)))) = omega arith in
    record {
      before = q.before;
      entry = ap (λ k. take 4 (drop k entries)) x ∙ ap (λ es. take 4 (drop (suc (suc (suc (suc (4 * i))))) es)) a.2 ∙ ap (take 4) (drop_entry a.0 t a.1 (4 * i)) ∙ q.entry;
      within = (let n = ap length a.2 ∙ length-append (text_entry a.0 t) a.1 in let m = entry_length a.0 t in let w = q.within in omega (arith, n, m, w, x));
      placed = q.placed;
      text_utf8 = q.text_utf8;
    }

module _ (nodes' : List PackedNode) (edges' : List PackedEdge) (entries long : List ℕ) (table : List Definition) (p : IsPacked nodes' edges' entries long table) where
  -- the entry of a leaf is that of its text
  pub leaf_entry : (i : ℕ) → i < length (leaves table) → TextPiece entries long i (get_or (texts_of table) i [])
  leaf_entry i h =
      text_piece (texts_of table) entries long i (let n = leaves_count table p.settled in let m = length-map table (λ (d : Definition). d.text) in omega arith) p.texts_are_utf8 p.entries_are

  -- there are four bytes for each leaf
  pub entries_counted : length entries ≡ 4 * length (leaves table)
  entries_counted = entries_count (texts_of table) entries long p.entries_are ∙ ap (λ n. 4 * n) (length-map table (λ (d : Definition). d.text) ∙ sym (leaves_count table p.settled))

  -- that text is the leaf's
  pub leaf_text_found : (i : ℕ) (t : List ℕ) → i < length (leaves table) → t ≡ get_or (texts_of table) i [] → (leaf_text table i ≡ Some t) × (length t ≤ 255)
  leaf_text_found i t h e =
      let d : Definition = record { sequence = []; text = [] } in
      let within : i < length table = let n = leaves_count table p.settled in omega arith in
      let is : t ≡ (get_or table i d).text = e ∙ get_or-map (λ (x : Definition). x.text) table i d [] within in (
        leaf_text_is table i d p.settled within
            ∙ ap (λ x. Some x) (sym is),
        (let few = text_few (get_or table i d) (definition_at table i d p.settled.definitions within) in let n : length t ≡ length (get_or table i d).text = ap length is in omega arith),
      )
