-- Sources of which the first one is named by its path from a folder.
use Rattle.std.proofs.Common.{◌≡◌, ◌+◌, ◌<◌, ℕ, List, [], ◌∷◌, ◌++◌, length, take, drop, get_or, refl, sym, ◌∙◌, ap, ap₂, zero, suc, arith}
use Rattle.std.specs.Prelude.{Option, Some, None, option_map, slice_get, unwrap_or}
use Rattle.std.proofs.Math.Seq.{split_at}
use Rattle.std.proofs.lemmas.List.{take_more}
use Rattle.std.proofs.lemmas.Option.{slice_get-get_or}
use Rattle.compose_read.specs.Lines.{Source}
use Rattle.compose_read.specs.Sources.{add_fault}
use Rattle.compose_read.specs.declared.sources.SourceFault.{SourceFault}
use Rattle.compose_table_file.specs.Origin.{CannotBeNamed, name_at, named_from, path_from}

abbrev no_source : Source
no_source = record { name = []; bytes = [] }

more_is : (index : ℕ) → index + 1 ≡ suc index
more_is index = omega arith

-- one source more is named
named_more : (folder : List ℕ) (sources : List Source) (index : ℕ) → index < length sources → named_from folder (take (suc index) sources)
    ≡ named_from folder (take index sources) ++ record { name = name_at folder index (get_or sources index no_source).name; bytes = (get_or sources index no_source).bytes } ∷ []
named_more folder [] index within = absurd (let w : index < 0 = within in omega (arith, w))
named_more folder (s ∷ sources) zero within = refl
named_more folder (s ∷ sources) (suc index) within =
    ap (λ rest. record { name = path_from folder s.name; bytes = s.bytes } ∷ rest) (ap (λ n. take n sources) (sym (more_is index)) ∙ take_more sources index no_source (omega (arith, within)))

-- the first source can be added by any name, and each other one has its own
own_name : (folder : List ℕ) (sources : List Source) (index : ℕ) (name text : List ℕ) (e : SourceFault) → text ≡ name_at folder index name
    → add_fault (named_from folder (take index sources)) text ≡ Some e → add_fault (named_from folder (take index sources)) name ≡ Some e
own_name folder sources zero name text e is fault = absurd (let no : None ≡ Some e = fault in cc)
own_name folder sources (suc index) name text e is fault = ap (add_fault (named_from folder (take (suc index) sources))) (sym is) ∙ fault

module _ (folder : List ℕ) (sources : List Source) (index : ℕ) (within : index < length sources) where
  abbrev at : Source
  at = get_or sources index no_source

  is_at : slice_get sources index ≡ Some at
  is_at = slice_get-get_or sources index no_source within

  pub name_is : (name : Option (List ℕ)) → name ≡ option_map (λ (s : Source). s.name) (slice_get sources index) → unwrap_or name [] ≡ at.name
  name_is name named = ap (λ (o : Option (List ℕ)). unwrap_or o []) (named ∙ ap (option_map (λ (s : Source). s.name)) is_at)

  pub bytes_are : (bytes : List ℕ) → option_map (λ (s : Source). s.bytes) (slice_get sources index) ≡ Some bytes → bytes ≡ at.bytes
  bytes_are bytes held = sym (ap (λ (o : Option (List ℕ)). unwrap_or o []) (sym (ap (option_map (λ (s : Source). s.bytes)) is_at) ∙ held))

  -- if the first sources are named so, then the next one makes one more of them
  pub named_next : (named more : List Source) (name : Option (List ℕ)) (text bytes : List ℕ) → name ≡ option_map (λ (s : Source). s.name) (slice_get sources index)
      → option_map (λ (s : Source). s.bytes) (slice_get sources index) ≡ Some bytes → text ≡ name_at folder index (unwrap_or name [])
      → named ≡ named_from folder (take index sources) → more ≡ named ++ record { name = text; bytes = bytes } ∷ [] → more ≡ named_from folder (take (index + 1) sources)
  named_next named more name text bytes has held is are e =
      e ∙ ap (λ cs. cs ++ record { name = text; bytes = bytes } ∷ []) are
      ∙ ap₂ (λ (n b : List ℕ). named_from folder (take index sources) ++ record { name = n; bytes = b } ∷ []) (is ∙ ap (name_at folder index) (name_is name has)) (bytes_are bytes held)
      ∙ sym (ap (λ n. named_from folder (take n sources)) (more_is index) ∙ named_more folder sources index within)

  -- a source that can't be added to those before it
  pub cannot : (name : Option (List ℕ)) (text : List ℕ) (named : List Source) (e : SourceFault) → name ≡ option_map (λ (s : Source). s.name) (slice_get sources index)
      → text ≡ name_at folder index (unwrap_or name []) → named ≡ named_from folder (take index sources) → add_fault named text ≡ Some e → CannotBeNamed folder sources e
  cannot name text named e has is are fault =
      let text_is : text ≡ name_at folder index at.name = is ∙ ap (name_at folder index) (name_is name has) in
      record {
        before = take index sources;
        source = at;
        behind = drop (suc index) sources;
        has = split_at sources index no_source within;
        fault = own_name folder sources index at.name text e text_is (ap (λ l. add_fault l text) (sym are) ∙ fault);
      }
