-- Tables and files, read one after another.
use Rattle.std.proofs.Common.{◌≡◌, refl, ℕ, List, [], ◌∷◌, ◌++◌, inl, inr, subst, sym, Bor}
use Rattle.std.specs.Prelude.{◌⊎◌, Option}
use Rattle.compose_folder.specs.Content.{Entry, File, IsHeld}
use Rattle.compose_input.specs.declared.fault.Fault.{Fault}
use Rattle.compose_arguments.specs.declared.given_tables.TypeTable.TheVariants.{Manifest}
use Rattle.compose_given.specs.GivenTable.{IsGivenTable}
use Rattle.compose_given.specs.declared.environment.Environment.{Environment}
use Rattle.compose_given.specs.declared.chosen.NotedTable.{NotedTable}
use Rattle.compose_given.specs.First.{Read, FailsFirst}
use Rattle.compose_given.specs.Reads.{AddsTable, AddsText, AreTables, AreTexts, FailsReads, text_reads, table_reads}
use Rattle.compose_given.specs.declared.wanted.WantedTable.{WantedTable}

module _ (folder : Option (List Entry)) (environment : Environment) where
  -- one more table
  pub tables_more : (before : List WantedTable) (tables : List NotedTable) (wanted : WantedTable) (table : NotedTable)
      → AreTables folder environment before tables → IsGivenTable folder environment wanted.table table → AreTables folder environment (before ++ wanted ∷ []) (tables ++ table ∷ [])
  tables_more [] [] wanted table are is = (is, tt)
  tables_more [] (t ∷ tables) wanted table are is = absurd are
  tables_more (b ∷ before) [] wanted table are is = absurd are
  tables_more (b ∷ before) (t ∷ tables) wanted table (first, are) is = (first, tables_more before tables wanted table are is)

  pub tables_added : (before : List WantedTable) (tables tables' : List NotedTable) (wanted : WantedTable)
      → AreTables folder environment before tables → AddsTable folder environment wanted tables tables' → AreTables folder environment (before ++ wanted ∷ []) tables'
  tables_added before tables tables' wanted are one = subst (λ ts. AreTables folder environment (before ++ wanted ∷ []) ts) (sym one.added) (tables_more before tables wanted one.table are one.is)

  -- the tables are read, and a later read fails
  pub tables_then : (wanted : List WantedTable) (tables : List NotedTable) (others : List (Read Fault)) (fault : Fault)
      → AreTables folder environment wanted tables → FailsFirst others fault → FailsFirst (table_reads folder environment wanted others) fault
  tables_then [] tables others fault are fails = fails
  tables_then (w ∷ wanted) [] others fault are fails = absurd are
  tables_then (w ∷ wanted) (t ∷ tables) others fault (first, are) fails = inr ((t, first), tables_then wanted tables others fault are fails)

  -- a table fails, and others would be read after all of them
  pub tables_sooner : (wanted : List WantedTable) (others : List (Read Fault)) (fault : Fault)
      → FailsFirst (table_reads folder environment wanted []) fault → FailsFirst (table_reads folder environment wanted others) fault
  tables_sooner [] others fault fails = absurd fails
  tables_sooner (w ∷ wanted) others fault (inl fails) = inl fails
  tables_sooner (w ∷ wanted) others fault (inr (has, fails)) = inr (has, tables_sooner wanted others fault fails)

  one_fails : (wanted : WantedTable) (after : List WantedTable) (fault : Fault)
      → FailsFirst (table_reads folder environment (wanted ∷ []) []) fault → FailsFirst (table_reads folder environment (wanted ∷ after) []) fault
  one_fails wanted after fault (inl fails) = inl fails
  one_fails wanted after fault (inr (has, fails)) = absurd fails

  table_later : (before : List WantedTable) (tables : List NotedTable) (after : List WantedTable) (fault : Fault)
      → AreTables folder environment before tables → FailsFirst (table_reads folder environment after []) fault → FailsFirst (table_reads folder environment (before ++ after) []) fault
  table_later [] tables after fault are fails = fails
  table_later (b ∷ before) [] after fault are fails = absurd are
  table_later (b ∷ before) (t ∷ tables) after fault (first, are) fails = inr ((t, first), table_later before tables after fault are fails)

  -- the tables before this one are read, and this one fails
  pub table_fails : (before : List WantedTable) (tables : List NotedTable) (wanted : WantedTable) (after : List WantedTable) (fault : Fault)
      → AreTables folder environment before tables → FailsReads (table_reads folder environment (wanted ∷ []) []) fault → FailsReads (table_reads folder environment (before ++ wanted ∷ after) []) fault
  table_fails before tables wanted after fault are (inl none) = inl none
  table_fails before tables wanted after fault are (inr fails) = inr (table_later before tables (wanted ∷ after) fault are (one_fails wanted after fault fails))

module _ (folder : Option (List Entry)) where
  -- one more file
  pub texts_more : (before : List (List ℕ)) (texts : List (List ℕ)) (path text : List ℕ)
      → AreTexts folder before texts → IsHeld folder path (File text) → AreTexts folder (before ++ path ∷ []) (texts ++ text ∷ [])
  texts_more [] [] path text are is = (is, tt)
  texts_more [] (t ∷ texts) path text are is = absurd are
  texts_more (b ∷ before) [] path text are is = absurd are
  texts_more (b ∷ before) (t ∷ texts) path text (first, are) is = (first, texts_more before texts path text are is)

  pub texts_added : (before : List (List ℕ)) (texts texts' : List (List ℕ)) (path : List ℕ)
      → AreTexts folder before texts → AddsText folder path texts texts' → AreTexts folder (before ++ path ∷ []) texts'
  texts_added before texts texts' path are one = subst (λ ts. AreTexts folder (before ++ path ∷ []) ts) (sym one.added) (texts_more before texts path one.text are one.is)

  one_text : (path : List ℕ) (after : List (List ℕ)) (fault : Fault) → FailsFirst (text_reads folder (path ∷ [])) fault → FailsFirst (text_reads folder (path ∷ after)) fault
  one_text path after fault (inl fails) = inl fails
  one_text path after fault (inr (has, fails)) = absurd fails

  text_later : (before : List (List ℕ)) (texts : List (List ℕ)) (after : List (List ℕ)) (fault : Fault)
      → AreTexts folder before texts → FailsFirst (text_reads folder after) fault → FailsFirst (text_reads folder (before ++ after)) fault
  text_later [] texts after fault are fails = fails
  text_later (b ∷ before) [] after fault are fails = absurd are
  text_later (b ∷ before) (t ∷ texts) after fault (first, are) fails = inr ((t, first), text_later before texts after fault are fails)

  -- the files before this one are read, and this one fails
  pub text_fails : (before : List (List ℕ)) (texts : List (List ℕ)) (path : List ℕ) (after : List (List ℕ)) (fault : Fault)
      → AreTexts folder before texts → FailsReads (text_reads folder (path ∷ [])) fault → FailsReads (text_reads folder (before ++ path ∷ after)) fault
  text_fails before texts path after fault are (inl none) = inl none
  text_fails before texts path after fault are (inr fails) = inr (text_later before texts (path ∷ after) fault are (one_text path after fault fails))

-- the first reads fail, and others would come after them
pub names_fail : (read : Read Fault) (others : List (Read Fault)) (fault : Fault) → read.fails fault → FailsReads (read ∷ others) fault
names_fail read others fault fails = inr (inl fails)

-- the first read succeeds, and a later one fails
pub after_names : (read : Read Fault) (others : List (Read Fault)) (fault : Fault) → read.succeeds → FailsReads others fault → FailsReads (read ∷ others) fault
after_names read others fault has (inl none) = inl none
after_names read others fault has (inr fails) = inr (inr (has, fails))

-- all tables are read, and a later read fails; or a table fails
pub after_tables : (folder : Option (List Entry)) (environment : Environment) (wanted : List WantedTable) (tables : List NotedTable) (others : List (Read Fault)) (fault : Fault)
    → AreTables folder environment wanted tables → FailsReads others fault → FailsReads (table_reads folder environment wanted others) fault
after_tables folder environment wanted tables others fault are (inl none) = inl none
after_tables folder environment wanted tables others fault are (inr fails) = inr (tables_then folder environment wanted tables others fault are fails)

pub before_others : (folder : Option (List Entry)) (environment : Environment) (wanted : List WantedTable) (others : List (Read Fault)) (fault : Fault)
    → FailsReads (table_reads folder environment wanted []) fault → FailsReads (table_reads folder environment wanted others) fault
before_others folder environment wanted others fault (inl none) = inl none
before_others folder environment wanted others fault (inr fails) = inr (tables_sooner folder environment wanted others fault fails)

-- what stands for the items behind the end of a list
abbrev pub no_text : Bor (List ℕ)
no_text = record { ref_ptr = (0, 0); now = [] }

abbrev pub no_table : WantedTable
no_table = record { part = no_text; table = Manifest no_text }
