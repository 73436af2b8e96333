-- Unpacking the packed arrays of rows and texts returns these rows and texts.
use Rattle.std.proofs.Common.{◌≡◌, ℕ, zero, suc, ◌+◌, ◌-◌, ◌*◌, ◌/◌, ◌%◌, ◌≤◌, List, [], ◌∷◌, ◌++◌, true, false, cond, length, map, take, drop, refl, sym, ◌∙◌, ap, arith, inl, inr, eqb-true, eq-eqb, append_assoc, length-append}
use Rattle.std.specs.Prelude.{◌==◌, nat_lt, replicate}
use Rattle.std.proofs.Math.Seq.{drop-append_seam}
use Rattle.std.proofs.lemmas.Bool.{cases_Bool, le-ltb}
use Rattle.std.proofs.lemmas.List.{length-map, length-replicate}
use Rattle.compose_model.specs.Table.{Definition}
use Rattle.compose_tree.specs.declared.edge.Edge.{Edge}
use Rattle.compose_tree.specs.declared.packed.PackedEdge.{PackedEdge}
use Rattle.compose_tree.specs.declared.table.Target.{Target}
use Rattle.compose_tree.specs.declared.table.Target.TheVariants.{Node, Leaf}
use Rattle.compose_tree.specs.Rows.{NodeRow}
use Rattle.compose_tree.specs.Packed.{packed_target, packed_edge, packed_nodes, packed_edges, entry_text, long_text, text_entry, texts_of, unpacked_target, unpacked_edge, unpacked_rows, unpacked_texts, with_texts, AreEntries, HasLongText}

-- ---- entries

even_code : (n : ℕ) → ((n * 2) % 2 == 0) ≡ true
even_code n = eq-eqb ((n * 2) % 2) 0 (omega arith)

odd_code : (n : ℕ) → ((n * 2 + 1) % 2 == 0) ≡ false
odd_code n = elim (cases_Bool ((n * 2 + 1) % 2 == 0)) [
  | inl e ↦ absurd (let z : (n * 2 + 1) % 2 ≡ 0 = eqb-true ((n * 2 + 1) % 2) 0 e in omega arith)
  | inr e ↦ e
]

-- a target that is packed is unpacked again
pub unpack_target : (t : Target) → unpacked_target (packed_target t) ≡ t
unpack_target (Node n) =
    ap (λ b. cond {A = Target} b (Node (record { 0 = (n.0 * 2) / 2 })) (Leaf (record { 0 = (n.0 * 2) / 2 }))) (even_code n.0)
    ∙ (let e : (n.0 * 2) / 2 ≡ n.0 = omega arith in ap (λ i. Node (record { 0 = i })) e)
unpack_target (Leaf l) =
    ap (λ b. cond {A = Target} b (Node (record { 0 = (l.0 * 2 + 1) / 2 })) (Leaf (record { 0 = (l.0 * 2 + 1) / 2 }))) (odd_code l.0)
    ∙ (let e : (l.0 * 2 + 1) / 2 ≡ l.0 = omega arith in ap (λ i. Leaf (record { 0 = i })) e)

-- an edge that is packed is unpacked again
pub unpack_edge : (e : Edge) → unpacked_edge (packed_edge e) ≡ e
unpack_edge e = λ i. record { keysym = e.keysym; target = unpack_target e.target i }

-- edges that are packed are unpacked again
pub unpack_edges : (es : List Edge) → map unpacked_edge (map packed_edge es) ≡ es
unpack_edges [] = refl
unpack_edges (e ∷ es) = λ i. unpack_edge e i ∷ unpack_edges es i

-- ---- pieces

take_prefix : {X : Type 0} (n : ℕ) (xs ys : List X) → length xs ≡ n → take n (xs ++ ys) ≡ xs
take_prefix zero [] ys e = refl
take_prefix (suc n) [] ys e = absurd (omega arith)
take_prefix zero (x ∷ xs) ys e = absurd (omega arith)
take_prefix (suc n) (x ∷ xs) ys e = ap (λ zs. x ∷ zs) (take_prefix n xs ys (omega arith))

drop_prefix : {X : Type 0} (n : ℕ) (xs ys : List X) → length xs ≡ n → drop n (xs ++ ys) ≡ ys
drop_prefix n xs ys e = ap (λ m. drop m (xs ++ ys)) (sym e) ∙ drop-append_seam xs ys

-- the piece between two indexes consists of the elements there
pub piece : {X : Type 0} (a b : ℕ) (prefix xs back : List X) → length prefix ≡ a → b ≡ a + length xs → take (b - a) (drop a (prefix ++ (xs ++ back))) ≡ xs
piece a b prefix xs back e f = ap (take (b - a)) (drop_prefix a prefix (xs ++ back) e) ∙ take_prefix (b - a) xs back (omega arith)

-- ---- rows

rows_unpack : (rows : List NodeRow) (offset : ℕ) (prefix : List PackedEdge) → length prefix ≡ offset → unpacked_rows (packed_nodes offset rows) (prefix ++ packed_edges rows) ≡ rows
rows_unpack [] offset prefix e = refl
rows_unpack (row ∷ rows) offset prefix e =
    let es = map packed_edge row.edges in
    let n : length es ≡ length row.edges = length-map row.edges packed_edge in
    let here : map unpacked_edge (take (offset + length row.edges - offset) (drop offset (prefix ++ (es ++ packed_edges rows)))) ≡ row.edges =
    ap (map unpacked_edge) (piece offset (offset + length row.edges) prefix es (packed_edges rows) e (omega arith)) ∙ unpack_edges row.edges in
    let later : unpacked_rows (packed_nodes (offset + length row.edges) rows) (prefix ++ (es ++ packed_edges rows)) ≡ rows =
    ap (unpacked_rows (packed_nodes (offset + length row.edges) rows)) (sym (append_assoc prefix es (packed_edges rows)))
    ∙ rows_unpack rows (offset + length row.edges) (prefix ++ es) (let m = length-append prefix es in omega arith) in
    two offset row rows (prefix ++ (es ++ packed_edges rows)) here later
  where
    two : (offset : ℕ) (row : NodeRow) (rows : List NodeRow) (edges : List PackedEdge) → map unpacked_edge (take (offset + length row.edges - offset) (drop offset edges)) ≡ row.edges
        → unpacked_rows (packed_nodes (offset + length row.edges) rows) edges ≡ rows → unpacked_rows (packed_nodes offset (row ∷ rows)) edges ≡ row ∷ rows
    two offset row [] edges h l = λ i. record { depth = row.depth; edges = h i } ∷ l i
    two offset row (r ∷ rows) edges h l = λ i. record { depth = row.depth; edges = h i } ∷ l i

-- unpacking the packed rows returns the rows
pub unpack_rows : (rows : List NodeRow) → unpacked_rows (packed_nodes 0 rows) (packed_edges rows) ≡ rows
unpack_rows rows = rows_unpack rows 0 [] refl

-- ---- texts

-- the three bytes of an entry say how many bytes of long texts come before
pub before_read : (before : ℕ) → before % 2 ≡ 0 → 2 * (before / 2 % 256 + 256 * (before / 512 % 256) + 65536 * (before / 131072)) ≡ before
before_read before even = omega (arith, even)

-- a long text takes an even number of bytes
pub long_even : (text : List ℕ) → length (long_text text) % 2 ≡ 0
long_even [] = refl
long_even (a ∷ []) = refl
long_even (a ∷ b ∷ []) = refl
long_even (a ∷ b ∷ c ∷ []) = refl
long_even (a ∷ b ∷ c ∷ d ∷ more) =
    let n = length-append (a ∷ b ∷ c ∷ d ∷ more) (replicate (length more % 2) 0) in
    let m = length-replicate {A = ℕ} (length more % 2) 0 in
    omega (arith, n, m)

-- a text of more than three bytes stands where it is put
pub long_read : (text : List ℕ) (before : ℕ) (prefix : List ℕ) → length prefix ≡ before → 4 ≤ length text
    → (before + length text ≤ length (prefix ++ long_text text)) × (take (length text) (drop before (prefix ++ long_text text)) ≡ text)
long_read [] before prefix e h = absurd (omega (arith, h))
long_read (a ∷ []) before prefix e h = absurd (omega (arith, h))
long_read (a ∷ b ∷ []) before prefix e h = absurd (omega (arith, h))
long_read (a ∷ b ∷ c ∷ []) before prefix e h = absurd (omega (arith, h))
long_read (a ∷ b ∷ c ∷ d ∷ more) before prefix e h =
    let text : List ℕ = a ∷ b ∷ c ∷ d ∷ more in
    let pad : List ℕ = replicate (length more % 2) 0 in
    let n : length (prefix ++ (text ++ pad)) ≡ length prefix + (length text + length pad) = length-append prefix (text ++ pad) ∙ ap (λ m. length prefix + m) (length-append text pad) in (
      omega (arith, e, n),
      ap (take (length text)) (drop_prefix before prefix (text ++ pad) e) ∙ take_prefix (length text) text pad refl,
    )

-- the text of the entry of a text is that text
unpack_text : (text : List ℕ) (before : ℕ) (long entries : List ℕ) → HasLongText before text long → unpacked_texts (text_entry before text ++ entries) long ≡ text ∷ unpacked_texts entries long
unpack_text [] before long entries placed = refl
unpack_text (a ∷ []) before long entries placed = refl
unpack_text (a ∷ b ∷ []) before long entries placed = refl
unpack_text (a ∷ b ∷ c ∷ []) before long entries placed = refl
unpack_text (a ∷ b ∷ c ∷ d ∷ more) before long entries placed =
    let text : List ℕ = a ∷ b ∷ c ∷ d ∷ more in
    let x = before / 2 % 256 in
    let y = before / 512 % 256 in
    let z = before / 131072 in
    let count = length more + 4 in
    let wide : nat_lt count 4 ≡ false = le-ltb count 4 (omega arith) in
    let same : count ≡ length text = omega arith in
    let here : entry_text x y z count long ≡ text =
    ap (λ u. cond {A = List ℕ} u (take count (x ∷ y ∷ z ∷ [])) (take count (drop (2 * (x + 256 * y + 65536 * z)) long))) wide
    ∙ ap (λ m. take count (drop m long)) (before_read before placed.even) ∙ ap (λ m. take m (drop before long)) same ∙ placed.there (omega arith) in
    ap (λ t. t ∷ unpacked_texts entries long) here

-- texts that are packed are unpacked again
pub unpack_texts : (texts : List (List ℕ)) (entries long : List ℕ) → AreEntries entries texts long → unpacked_texts entries long ≡ texts
unpack_texts [] entries long h = ap (λ x. unpacked_texts x long) h
unpack_texts (t ∷ texts) entries long h =
    ap (λ x. unpacked_texts x long) h.2 ∙ unpack_text t h.0 long h.1 h.3 ∙ ap (λ ts. t ∷ ts) (unpack_texts texts h.1 long h.4)

-- sequences with their texts are the definitions
pub put_together : (table : List Definition) → with_texts (map (λ d. d.sequence) table) (texts_of table) ≡ table
put_together [] = refl
put_together (d ∷ table) = ap (λ t. d ∷ t) (put_together table)
