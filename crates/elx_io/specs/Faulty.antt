-- A shelf and a sink in memory whose calls fail by plan: their content, the numbers of the calls that are to fail, how many
-- calls were made and how many faults there were, and of the shelf the calls themselves. This project's own.
use Rattle.std.specs.Prelude.{◌≡◌, ◌⊎◌, ℕ, List, refl, Contains, None}
use Rattle.std.specs.Coded.{Coded, code_by, coded×, coded_ℕ, coded_list}
use Rattle.std.specs.FinMap as map
use Rattle.elx_io.specs.Call.{Call, calls_code}
use Rattle.elx_io.specs.Counts.{counted}
use Rattle.elx_io.specs.Files.{Files}

pub record FaultyShelf : Type 0 where
  pub content : Files
  pub failing : List ℕ
  pub calls : ℕ
  pub faults : ℕ
  pub told : List Call

pub record FaultySink : Type 0 where
  pub content : List ℕ
  pub failing : List ℕ
  pub calls : ℕ
  pub faults : ℕ

-- they are stored as the tuples of their fields
abbrev pub shelf_code : Coded FaultyShelf
shelf_code =
    code_by (Files × (List ℕ × (ℕ × (ℕ × List Call))))
    (coded× (map.code (coded_list coded_ℕ) (coded_list coded_ℕ)) (coded× (coded_list coded_ℕ) (coded× coded_ℕ (coded× coded_ℕ calls_code))))
    (λ it. (it.content, (it.failing, (it.calls, (it.faults, it.told)))))
    (λ p. record { content = p.0; failing = p.1.0; calls = p.1.1.0; faults = p.1.1.1.0; told = p.1.1.1.1 }) (λ _. refl)

abbrev pub sink_code : Coded FaultySink
sink_code =
    code_by (List ℕ × (List ℕ × (ℕ × ℕ))) (coded× (coded_list coded_ℕ) (coded× (coded_list coded_ℕ) (coded× coded_ℕ coded_ℕ)))
    (λ it. (it.content, (it.failing, (it.calls, it.faults))))
    (λ p. record { content = p.0; failing = p.1.0; calls = p.1.1.0; faults = p.1.1.1 }) (λ _. refl)

-- of the listed calls the next one is to fail, after so many; calls are numbered from 1
abbrev pub FailsNext : List ℕ → ℕ → Type 0
FailsNext failing calls = Contains failing (counted calls)

-- the next call, a read of a name, is to fail: it is listed, or there is no file of that name
abbrev pub ReadFails : List ℕ → FaultyShelf → Type 0
ReadFails name it = FailsNext it.failing it.calls ⊎ (map.get it.content name ≡ None)

-- the next call, a write, is to fail
abbrev pub WriteFails : FaultyShelf → Type 0
WriteFails it = FailsNext it.failing it.calls

-- the next call of the sink is to fail
abbrev pub PutFails : FaultySink → Type 0
PutFails it = FailsNext it.failing it.calls

-- the shelf with one more file
abbrev pub with_file : List ℕ → List ℕ → FaultyShelf → FaultyShelf
with_file name bytes it = record it { content = map.insert it.content name bytes }
