-- The four bytes of a text's entry.
use Rattle.std.proofs.Common.{◌≡◌, ℕ, zero, suc, ◌+◌, ◌*◌, ◌/◌, ◌%◌, ◌<◌, ◌≤◌, List, [], ◌∷◌, ◌++◌, length, get_or, take, drop, take-suc, add-one, refl, sym, ◌∙◌, ap, subst, arith}
use Rattle.compose_tree.specs.Packed.{text_entry, AreEntries}
use Rattle.compose_tree.proofs.LongTexts.{one_more_entry}
use Rattle.compose_tree.proofs.PackedTexts.{entry_length}
use Rattle.compose_c.specs.Arrays.{IsEntry}

-- four bytes are their elements
pub four_of : (e : List ℕ) → length e ≡ 4 → e ≡ get_or e 0 0 ∷ get_or e 1 0 ∷ get_or e 2 0 ∷ get_or e 3 0 ∷ []
four_of [] h = absurd (omega (arith, h))
four_of (a ∷ []) h = absurd (omega (arith, h))
four_of (a ∷ b ∷ []) h = absurd (omega (arith, h))
four_of (a ∷ b ∷ c ∷ []) h = absurd (omega (arith, h))
four_of (a ∷ b ∷ c ∷ d ∷ []) h = refl
four_of (a ∷ b ∷ c ∷ d ∷ e ∷ more) h = absurd (omega (arith, h))

-- four bytes that say where a text of more than three bytes stands are an entry of it
pub long_is : (entry text long : List ℕ) → length entry ≡ 4 → get_or entry 3 0 ≡ length text → 4 ≤ length text → get_or entry 0 0 < 256 → get_or entry 1 0 < 256
    → 2 * (get_or entry 0 0 + 256 * get_or entry 1 0 + 65536 * get_or entry 2 0) + length text ≤ length long
    → take (length text) (drop (2 * (get_or entry 0 0 + 256 * get_or entry 1 0 + 65536 * get_or entry 2 0)) long) ≡ text → IsEntry entry text long
long_is entry [] long four count h low middle fits there = absurd (omega (arith, h))
long_is entry (a ∷ []) long four count h low middle fits there = absurd (omega (arith, h))
long_is entry (a ∷ b ∷ []) long four count h low middle fits there = absurd (omega (arith, h))
long_is entry (a ∷ b ∷ c ∷ []) long four count h low middle fits there = absurd (omega (arith, h))
long_is entry (a ∷ b ∷ c ∷ d ∷ more) long four count h low middle fits there =
    let x = get_or entry 0 0 in
    let y = get_or entry 1 0 in
    let z = get_or entry 2 0 in
    let before : ℕ = 2 * (x + 256 * y + 65536 * z) in
    let first : x ≡ before / 2 % 256 = omega (arith, low, middle) in
    let second : y ≡ before / 512 % 256 = omega (arith, low, middle) in
    let third : z ≡ before / 131072 = omega (arith, low, middle) in
    let last : get_or entry 3 0 ≡ length more + 4 = omega (arith, count) in
    record {
      before = before;
      is = four_of entry four ∙ (λ i. first i ∷ second i ∷ third i ∷ last i ∷ []);
      placed = record { even = omega arith; fits = λ _. fits; there = λ _. there };
    }

-- ---- the entries of all texts

-- four more bytes come after those before them
pub four_more : (entries : List ℕ) (n : ℕ) → n + 4 ≤ length entries → take (n + 4) entries ≡ take n entries ++ take 4 (drop n entries)
four_more entries zero h = refl
four_more [] (suc n) h = absurd (omega (arith, h))
four_more (e ∷ entries) (suc n) h =
    let turned : suc n + 4 ≡ suc (n + 4) = omega arith in
    ap (λ k. take k (e ∷ entries)) turned ∙ ap (λ es. e ∷ es) (four_more entries n (omega (arith, h)))

drop_past : (xs ys : List ℕ) (k n : ℕ) → n ≡ length xs + k → drop n (xs ++ ys) ≡ drop k ys
drop_past [] ys k n e = let same : n ≡ k = omega (arith, e) in ap (λ m. drop m ys) same
drop_past (x ∷ xs) ys k zero e = absurd (omega (arith, e))
drop_past (x ∷ xs) ys k (suc n) e = drop_past xs ys k n (omega (arith, e))

take_front : (n : ℕ) (xs ys : List ℕ) → length xs ≡ n → take n (xs ++ ys) ≡ xs
take_front zero [] ys e = refl
take_front (suc n) [] ys e = absurd (omega (arith, e))
take_front zero (x ∷ xs) ys e = absurd (omega (arith, e))
take_front (suc n) (x ∷ xs) ys e = ap (λ zs. x ∷ zs) (take_front n xs ys (omega (arith, e)))

-- the four bytes at the index of a text are its entry
pub entry_at : (texts : List (List ℕ)) (entries long : List ℕ) (i : ℕ) → i < length texts → AreEntries entries texts long → IsEntry (take 4 (drop (i * 4) entries)) (get_or texts i []) long
entry_at [] entries long i h are = absurd (omega (arith, h))
entry_at (t ∷ texts) entries long zero h are = record { before = are.0; is = ap (take 4) are.2 ∙ take_front 4 (text_entry are.0 t) are.1 (entry_length are.0 t); placed = are.3 }
entry_at (t ∷ texts) entries long (suc i) h are =
    let four = entry_length are.0 t in
    let past : drop (suc i * 4) entries ≡ drop (i * 4) are.1 = ap (drop (suc i * 4)) are.2 ∙ drop_past (text_entry are.0 t) are.1 (i * 4) (suc i * 4) (omega (arith, four)) in
    subst (λ es. IsEntry (take 4 es) (get_or texts i []) long) (sym past) (entry_at texts are.1 long i (omega (arith, h)) are.4)

-- the entries up to the next text
pub one_more_text : (texts : List (List ℕ)) (entries long : List ℕ) (i : ℕ) (t : List ℕ) → i < length texts → i * 4 + 4 ≤ length entries → t ≡ get_or texts i []
    → AreEntries (take (i * 4) entries) (take i texts) long → IsEntry (take 4 (drop (i * 4) entries)) t long → AreEntries (take ((i + 1) * 4) entries) (take (i + 1) texts) long
one_more_text texts entries long i t within room same are next =
    let turned : (i + 1) * 4 ≡ i * 4 + 4 = omega arith in
    let bytes : take ((i + 1) * 4) entries ≡ take (i * 4) entries ++ text_entry next.before t =
    ap (λ n. take n entries) turned ∙ four_more entries (i * 4) room ∙ ap (λ e. take (i * 4) entries ++ e) next.is in
    let more : take (i + 1) texts ≡ take i texts ++ t ∷ [] = rw add-one (take-suc texts i [] within) ∙ ap (λ u. take i texts ++ u ∷ []) (sym same) in
    subst (λ es. AreEntries es (take (i + 1) texts) long) (sym bytes)
    (subst (λ ts. AreEntries (take (i * 4) entries ++ text_entry next.before t) ts long) (sym more) (one_more_entry (take i texts) (take (i * 4) entries) long next.before t are next.placed))
