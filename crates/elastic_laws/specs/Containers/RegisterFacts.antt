-- What holds of registers where they are put, written and looked up; this project's own.
use Rattle.std.specs.Prelude.{◌≡◌, ◌≢◌, ◌⊎◌, ℕ, List, [], ◌∷◌, ◌++◌, length, slice_get, slice_set, Option, Some, None, option_map}
use Rattle.elx_bits.specs.Words.{BitWord}
use Rattle.elastic_ast.specs.Tree.{Name}
use Rattle.elastic_ast.specs.Containers.RegisterLists.{Register, register_at, cell_at, with_cell, width_at, values_at}

-- a cell of these registers is another one
abbrev pub AreTwoCells : ℕ → ℕ → ℕ → ℕ → Type 0
AreTwoCells place cell other_place other_cell = (place ≢ other_place) ⊎ (cell ≢ other_cell)

-- a cell that was written has the value and keeps its width, every other cell stays, and writes into two cells commute
pub record CellsAreApart : Type 0 where
  pub read_back :
      (registers : List Register) (place cell value : ℕ) →
      cell_at (with_cell registers place cell value) place cell
      ≡ option_map (λ old. (let x : BitWord = (old.0, value) in x)) (cell_at registers place cell)
  pub others_stay :
      (registers : List Register) (place cell value other_place other_cell : ℕ) → AreTwoCells place cell other_place other_cell →
      cell_at (with_cell registers place cell value) other_place other_cell ≡ cell_at registers other_place other_cell
  pub commute :
      (registers : List Register) (place cell value other_place other_cell other_value : ℕ) → AreTwoCells place cell other_place other_cell →
      with_cell (with_cell registers place cell value) other_place other_cell other_value
      ≡ with_cell (with_cell registers other_place other_cell other_value) place cell value

-- a register is found where it was put, whatever is put or written after it
pub record NamesStay : Type 0 where
  pub put :
      (registers : List Register) (register : Register) → register_at registers register.0 register.1 ≡ None →
      register_at (registers ++ register ∷ []) register.0 register.1 ≡ Some (length registers)
  pub put_after :
      (registers : List Register) (register : Register) (name : Name) (index : Option ℕ) (place : ℕ) →
      register_at registers name index ≡ Some place → register_at (registers ++ register ∷ []) name index ≡ Some place
  pub written :
      (registers : List Register) (place cell value : ℕ) (name : Name) (index : Option ℕ) →
      register_at (with_cell registers place cell value) name index ≡ register_at registers name index

-- the cells of a register are the values of its name and index, and a write into one changes no others
pub record NamesLeadToCells : Type 0 where
  pub cells :
      (registers : List Register) (name : Name) (index : Option ℕ) (place cell : ℕ) → register_at registers name index ≡ Some place →
      cell_at registers place cell
      ≡ option_map (λ value. (let x : BitWord = (width_at registers name index, value) in x)) (slice_get (values_at registers name index) cell)
  pub width :
      (registers : List Register) (name : Name) (index : Option ℕ) (place cell value : ℕ) →
      width_at (with_cell registers place cell value) name index ≡ width_at registers name index
  pub values :
      (registers : List Register) (name : Name) (index : Option ℕ) (place cell value : ℕ) → register_at registers name index ≡ Some place →
      values_at (with_cell registers place cell value) name index ≡ slice_set (values_at registers name index) cell value
  pub other_values :
      (registers : List Register) (name : Name) (index : Option ℕ) (place cell value : ℕ) → (register_at registers name index ≡ Some place → ⊥) →
      values_at (with_cell registers place cell value) name index ≡ values_at registers name index
