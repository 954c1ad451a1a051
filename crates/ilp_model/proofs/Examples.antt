-- The integer programs of worked programs, with the numbers that were told by hand or by another reading of the rules. Each line is
-- computed.
use Rattle.std.proofs.Common.{◌≡◌, ℕ, ℤ, pos, negsuc, false, List, [], ◌∷◌, refl}
use Rattle.elastic_ast.specs.declared.flat.Terms.{Terms}
use Rattle.elastic_ast.specs.Tree.{PlainDecl}
use Rattle.elastic_ast.specs.Sizes.SizeSums.{symbols_of}
use Rattle.elastic_ast.specs.Units.PlainUnits.{PlainUnits}
use Rattle.elastic_ast.specs.Units.UnitsOf.{units_of, fixed_bits, symbol_bits}
use Rattle.elastic_ast.specs.Units.Instances.{nth_size}
use Rattle.elastic_laws.specs.Examples.WorkedSources.{two_register_arrays, count_min_sketch}
use Rattle.target_desc.specs.declared.target.Target.{Target}
use Rattle.int_program.specs.declared.program.Ip.{Ip}
use Rattle.int_program.specs.declared.program.Part.{Part}
use Rattle.int_program.specs.declared.program.Row.{Row}
use Rattle.ilp_model.specs.IpOf.{ip_of}

abbrev part : ℕ → ℤ → Part
part number by = record { var = number; by = by }

abbrev at_most : List Part → ℤ → Row
at_most parts most = record { parts = parts; most = most }

abbrev with_terms : List PlainDecl → Terms → PlainUnits
with_terms decls terms = record { terms = terms; list = units_of decls; fixed_bits = fixed_bits decls; symbol_bits = symbol_bits decls }

abbrev switch_of : ℕ → ℕ → Target
switch_of stages stateful =
    record { stages = stages; memory_bits = 1024; stateful = stateful; stateless = 8; table_bits = 1024; ternary_bits = 1024; header_bits = 512; ops = 8 }

abbrev two_register_arrays_program : Ip
two_register_arrays_program =
    record {
      tops = pos 32 ∷ pos 32 ∷ pos 1 ∷ pos 1 ∷ pos 32 ∷ pos 32 ∷ [];
      rows =
          at_most (part 1 (negsuc 0) ∷ []) (negsuc 4)
          ∷ at_most (part 0 (negsuc 0) ∷ []) (negsuc 0)
          ∷ at_most (part 1 (negsuc 0) ∷ []) (negsuc 0)
          ∷ at_most ([]) (pos 439)
          ∷ at_most (part 2 (pos 1) ∷ []) (pos 1)
          ∷ at_most (part 2 (negsuc 0) ∷ []) (negsuc 0)
          ∷ at_most (part 3 (pos 1) ∷ []) (pos 1)
          ∷ at_most (part 3 (negsuc 0) ∷ []) (negsuc 0)
          ∷ at_most (part 2 (negsuc 31) ∷ part 4 (pos 1) ∷ []) (pos 0)
          ∷ at_most (part 0 (pos 1) ∷ part 4 (negsuc 0) ∷ []) (pos 0)
          ∷ at_most (part 3 (negsuc 31) ∷ part 5 (pos 1) ∷ []) (pos 0)
          ∷ at_most (part 1 (pos 1) ∷ part 5 (negsuc 0) ∷ []) (pos 0)
          ∷ at_most (part 2 (pos 1) ∷ part 3 (pos 1) ∷ []) (pos 2)
          ∷ at_most (part 2 (pos 1) ∷ part 3 (pos 1) ∷ []) (pos 8)
          ∷ at_most (part 4 (pos 32) ∷ part 5 (pos 32) ∷ []) (pos 1024)
          ∷ at_most ([]) (pos 1024)
          ∷ at_most ([]) (pos 1024)
          ∷ [];
      goal = part 0 (pos 3) ∷ part 1 (pos 2) ∷ [];
      base = pos 0;
    }

two_register_arrays_works : ip_of (with_terms two_register_arrays (record { symbols = symbols_of two_register_arrays; rows = record { by = pos 0 ∷ negsuc 0 ∷ []; most = negsuc 4 } ∷ []; ones = 0 ∷ 1 ∷ []; base = pos 0; by = pos 3 ∷ pos 2 ∷ []; steps = [] })) (switch_of 1 2) (nth_size (32 ∷ 32 ∷ [])) ≡ two_register_arrays_program
two_register_arrays_works = refl

abbrev stepped_utility_program : Ip
stepped_utility_program =
    record {
      tops = pos 32 ∷ pos 32 ∷ pos 1 ∷ pos 1 ∷ pos 1 ∷ pos 1 ∷ pos 32 ∷ pos 32 ∷ [];
      rows =
          at_most (part 0 (negsuc 0) ∷ []) (negsuc 0)
          ∷ at_most (part 1 (negsuc 0) ∷ []) (negsuc 0)
          ∷ at_most ([]) (pos 439)
          ∷ at_most (part 0 (negsuc 0) ∷ part 2 (pos 8) ∷ []) (pos 0)
          ∷ at_most (part 0 (pos 1) ∷ part 2 (negsuc 24) ∷ []) (pos 7)
          ∷ at_most (part 0 (negsuc 0) ∷ part 3 (pos 16) ∷ []) (pos 0)
          ∷ at_most (part 0 (pos 1) ∷ part 3 (negsuc 16) ∷ []) (pos 15)
          ∷ at_most (part 4 (pos 1) ∷ []) (pos 1)
          ∷ at_most (part 4 (negsuc 0) ∷ []) (negsuc 0)
          ∷ at_most (part 5 (pos 1) ∷ []) (pos 1)
          ∷ at_most (part 5 (negsuc 0) ∷ []) (negsuc 0)
          ∷ at_most (part 4 (negsuc 31) ∷ part 6 (pos 1) ∷ []) (pos 0)
          ∷ at_most (part 0 (pos 1) ∷ part 6 (negsuc 0) ∷ []) (pos 0)
          ∷ at_most (part 5 (negsuc 31) ∷ part 7 (pos 1) ∷ []) (pos 0)
          ∷ at_most (part 1 (pos 1) ∷ part 7 (negsuc 0) ∷ []) (pos 0)
          ∷ at_most (part 4 (pos 1) ∷ part 5 (pos 1) ∷ []) (pos 2)
          ∷ at_most (part 4 (pos 1) ∷ part 5 (pos 1) ∷ []) (pos 8)
          ∷ at_most (part 6 (pos 32) ∷ part 7 (pos 32) ∷ []) (pos 1024)
          ∷ at_most ([]) (pos 1024)
          ∷ at_most ([]) (pos 1024)
          ∷ [];
      goal = part 1 (pos 2) ∷ part 2 (pos 50) ∷ part 3 (pos 10) ∷ [];
      base = pos 0;
    }

stepped_utility_works : ip_of (with_terms two_register_arrays (record { symbols = symbols_of two_register_arrays; rows = []; ones = 0 ∷ 1 ∷ []; base = pos 0; by = pos 0 ∷ pos 2 ∷ []; steps = record { minus = false; symbol = 0; pairs = (0, 0) ∷ (8, 50) ∷ (16, 60) ∷ [] } ∷ [] })) (switch_of 1 2) (nth_size (32 ∷ 32 ∷ [])) ≡ stepped_utility_program
stepped_utility_works = refl

abbrev count_min_sketch_program : Ip
count_min_sketch_program =
    record {
      tops = pos 3 ∷ pos 32 ∷ pos 1 ∷ pos 1 ∷ pos 1 ∷ pos 1 ∷ pos 1 ∷ pos 1 ∷ pos 1 ∷ pos 1 ∷ pos 1 ∷ pos 1 ∷ pos 1 ∷ pos 1 ∷ pos 1 ∷ pos 1 ∷ pos 1 ∷ pos 1 ∷ pos 1 ∷ pos 1 ∷ pos 1 ∷ pos 1 ∷ pos 1 ∷ pos 1 ∷ pos 1 ∷ pos 1 ∷ pos 32 ∷ pos 32 ∷ pos 32 ∷ pos 32 ∷ pos 32 ∷ pos 32 ∷ pos 32 ∷ pos 32 ∷ pos 32 ∷ [];
      rows =
          at_most (part 0 (negsuc 0) ∷ []) (negsuc 0)
          ∷ at_most (part 1 (negsuc 0) ∷ []) (negsuc 0)
          ∷ at_most (part 0 (pos 64) ∷ []) (pos 367)
          ∷ at_most (part 0 (pos 1) ∷ part 2 (negsuc 0) ∷ part 3 (negsuc 0) ∷ part 4 (negsuc 0) ∷ []) (pos 0)
          ∷ at_most (part 0 (negsuc 0) ∷ part 2 (pos 1) ∷ part 3 (pos 1) ∷ part 4 (pos 1) ∷ []) (pos 0)
          ∷ at_most (part 2 (negsuc 0) ∷ part 3 (pos 1) ∷ []) (pos 0)
          ∷ at_most (part 3 (negsuc 0) ∷ part 4 (pos 1) ∷ []) (pos 0)
          ∷ at_most (part 5 (pos 1) ∷ part 6 (pos 1) ∷ part 7 (pos 1) ∷ []) (pos 1)
          ∷ at_most (part 5 (negsuc 0) ∷ part 6 (negsuc 0) ∷ part 7 (negsuc 0) ∷ []) (negsuc 0)
          ∷ at_most (part 2 (negsuc 0) ∷ part 8 (pos 1) ∷ part 9 (pos 1) ∷ part 10 (pos 1) ∷ []) (pos 0)
          ∷ at_most (part 2 (pos 1) ∷ part 8 (negsuc 0) ∷ part 9 (negsuc 0) ∷ part 10 (negsuc 0) ∷ []) (pos 0)
          ∷ at_most (part 2 (negsuc 0) ∷ part 11 (pos 1) ∷ part 12 (pos 1) ∷ part 13 (pos 1) ∷ []) (pos 0)
          ∷ at_most (part 2 (pos 1) ∷ part 11 (negsuc 0) ∷ part 12 (negsuc 0) ∷ part 13 (negsuc 0) ∷ []) (pos 0)
          ∷ at_most (part 3 (negsuc 0) ∷ part 14 (pos 1) ∷ part 15 (pos 1) ∷ part 16 (pos 1) ∷ []) (pos 0)
          ∷ at_most (part 3 (pos 1) ∷ part 14 (negsuc 0) ∷ part 15 (negsuc 0) ∷ part 16 (negsuc 0) ∷ []) (pos 0)
          ∷ at_most (part 3 (negsuc 0) ∷ part 17 (pos 1) ∷ part 18 (pos 1) ∷ part 19 (pos 1) ∷ []) (pos 0)
          ∷ at_most (part 3 (pos 1) ∷ part 17 (negsuc 0) ∷ part 18 (negsuc 0) ∷ part 19 (negsuc 0) ∷ []) (pos 0)
          ∷ at_most (part 4 (negsuc 0) ∷ part 20 (pos 1) ∷ part 21 (pos 1) ∷ part 22 (pos 1) ∷ []) (pos 0)
          ∷ at_most (part 4 (pos 1) ∷ part 20 (negsuc 0) ∷ part 21 (negsuc 0) ∷ part 22 (negsuc 0) ∷ []) (pos 0)
          ∷ at_most (part 4 (negsuc 0) ∷ part 23 (pos 1) ∷ part 24 (pos 1) ∷ part 25 (pos 1) ∷ []) (pos 0)
          ∷ at_most (part 4 (pos 1) ∷ part 23 (negsuc 0) ∷ part 24 (negsuc 0) ∷ part 25 (negsuc 0) ∷ []) (pos 0)
          ∷ at_most (part 8 (negsuc 31) ∷ part 26 (pos 1) ∷ []) (pos 0)
          ∷ at_most (part 9 (negsuc 31) ∷ part 27 (pos 1) ∷ []) (pos 0)
          ∷ at_most (part 10 (negsuc 31) ∷ part 28 (pos 1) ∷ []) (pos 0)
          ∷ at_most (part 1 (pos 1) ∷ part 2 (pos 32) ∷ part 26 (negsuc 0) ∷ part 27 (negsuc 0) ∷ part 28 (negsuc 0) ∷ []) (pos 32)
          ∷ at_most (part 14 (negsuc 31) ∷ part 29 (pos 1) ∷ []) (pos 0)
          ∷ at_most (part 15 (negsuc 31) ∷ part 30 (pos 1) ∷ []) (pos 0)
          ∷ at_most (part 16 (negsuc 31) ∷ part 31 (pos 1) ∷ []) (pos 0)
          ∷ at_most (part 1 (pos 1) ∷ part 3 (pos 32) ∷ part 29 (negsuc 0) ∷ part 30 (negsuc 0) ∷ part 31 (negsuc 0) ∷ []) (pos 32)
          ∷ at_most (part 20 (negsuc 31) ∷ part 32 (pos 1) ∷ []) (pos 0)
          ∷ at_most (part 21 (negsuc 31) ∷ part 33 (pos 1) ∷ []) (pos 0)
          ∷ at_most (part 22 (negsuc 31) ∷ part 34 (pos 1) ∷ []) (pos 0)
          ∷ at_most (part 1 (pos 1) ∷ part 4 (pos 32) ∷ part 32 (negsuc 0) ∷ part 33 (negsuc 0) ∷ part 34 (negsuc 0) ∷ []) (pos 32)
          ∷ at_most (part 8 (pos 1) ∷ part 14 (pos 1) ∷ part 20 (pos 1) ∷ []) (pos 1)
          ∷ at_most (part 5 (pos 1) ∷ part 8 (pos 2) ∷ part 11 (pos 1) ∷ part 14 (pos 2) ∷ part 17 (pos 1) ∷ part 20 (pos 2) ∷ part 23 (pos 1) ∷ []) (pos 8)
          ∷ at_most (part 26 (pos 32) ∷ part 29 (pos 32) ∷ part 32 (pos 32) ∷ []) (pos 1024)
          ∷ at_most ([]) (pos 1024)
          ∷ at_most ([]) (pos 1024)
          ∷ at_most (part 9 (pos 1) ∷ part 15 (pos 1) ∷ part 21 (pos 1) ∷ []) (pos 1)
          ∷ at_most (part 6 (pos 1) ∷ part 9 (pos 2) ∷ part 12 (pos 1) ∷ part 15 (pos 2) ∷ part 18 (pos 1) ∷ part 21 (pos 2) ∷ part 24 (pos 1) ∷ []) (pos 8)
          ∷ at_most (part 27 (pos 32) ∷ part 30 (pos 32) ∷ part 33 (pos 32) ∷ []) (pos 1024)
          ∷ at_most ([]) (pos 1024)
          ∷ at_most ([]) (pos 1024)
          ∷ at_most (part 10 (pos 1) ∷ part 16 (pos 1) ∷ part 22 (pos 1) ∷ []) (pos 1)
          ∷ at_most (part 7 (pos 1) ∷ part 10 (pos 2) ∷ part 13 (pos 1) ∷ part 16 (pos 2) ∷ part 19 (pos 1) ∷ part 22 (pos 2) ∷ part 25 (pos 1) ∷ []) (pos 8)
          ∷ at_most (part 28 (pos 32) ∷ part 31 (pos 32) ∷ part 34 (pos 32) ∷ []) (pos 1024)
          ∷ at_most ([]) (pos 1024)
          ∷ at_most ([]) (pos 1024)
          ∷ at_most (part 5 (pos 1) ∷ part 6 (pos 1) ∷ part 7 (pos 1) ∷ part 11 (pos 1) ∷ []) (pos 1)
          ∷ at_most (part 6 (pos 1) ∷ part 7 (pos 1) ∷ part 11 (pos 1) ∷ part 12 (pos 1) ∷ []) (pos 1)
          ∷ at_most (part 7 (pos 1) ∷ part 11 (pos 1) ∷ part 12 (pos 1) ∷ part 13 (pos 1) ∷ []) (pos 1)
          ∷ at_most (part 5 (pos 1) ∷ part 6 (pos 1) ∷ part 7 (pos 1) ∷ part 17 (pos 1) ∷ []) (pos 1)
          ∷ at_most (part 6 (pos 1) ∷ part 7 (pos 1) ∷ part 17 (pos 1) ∷ part 18 (pos 1) ∷ []) (pos 1)
          ∷ at_most (part 7 (pos 1) ∷ part 17 (pos 1) ∷ part 18 (pos 1) ∷ part 19 (pos 1) ∷ []) (pos 1)
          ∷ at_most (part 5 (pos 1) ∷ part 6 (pos 1) ∷ part 7 (pos 1) ∷ part 23 (pos 1) ∷ []) (pos 1)
          ∷ at_most (part 6 (pos 1) ∷ part 7 (pos 1) ∷ part 23 (pos 1) ∷ part 24 (pos 1) ∷ []) (pos 1)
          ∷ at_most (part 7 (pos 1) ∷ part 23 (pos 1) ∷ part 24 (pos 1) ∷ part 25 (pos 1) ∷ []) (pos 1)
          ∷ at_most (part 8 (pos 1) ∷ part 9 (pos 1) ∷ part 10 (pos 1) ∷ part 11 (pos 1) ∷ []) (pos 1)
          ∷ at_most (part 9 (pos 1) ∷ part 10 (pos 1) ∷ part 11 (pos 1) ∷ part 12 (pos 1) ∷ []) (pos 1)
          ∷ at_most (part 10 (pos 1) ∷ part 11 (pos 1) ∷ part 12 (pos 1) ∷ part 13 (pos 1) ∷ []) (pos 1)
          ∷ at_most (part 11 (pos 1) ∷ part 12 (pos 1) ∷ part 13 (pos 1) ∷ part 17 (pos 1) ∷ []) (pos 1)
          ∷ at_most (part 12 (pos 1) ∷ part 13 (pos 1) ∷ part 17 (pos 1) ∷ part 18 (pos 1) ∷ []) (pos 1)
          ∷ at_most (part 13 (pos 1) ∷ part 17 (pos 1) ∷ part 18 (pos 1) ∷ part 19 (pos 1) ∷ []) (pos 1)
          ∷ at_most (part 11 (pos 1) ∷ part 12 (pos 1) ∷ part 13 (pos 1) ∷ part 23 (pos 1) ∷ []) (pos 1)
          ∷ at_most (part 12 (pos 1) ∷ part 13 (pos 1) ∷ part 23 (pos 1) ∷ part 24 (pos 1) ∷ []) (pos 1)
          ∷ at_most (part 13 (pos 1) ∷ part 23 (pos 1) ∷ part 24 (pos 1) ∷ part 25 (pos 1) ∷ []) (pos 1)
          ∷ at_most (part 14 (pos 1) ∷ part 15 (pos 1) ∷ part 16 (pos 1) ∷ part 17 (pos 1) ∷ []) (pos 1)
          ∷ at_most (part 15 (pos 1) ∷ part 16 (pos 1) ∷ part 17 (pos 1) ∷ part 18 (pos 1) ∷ []) (pos 1)
          ∷ at_most (part 16 (pos 1) ∷ part 17 (pos 1) ∷ part 18 (pos 1) ∷ part 19 (pos 1) ∷ []) (pos 1)
          ∷ at_most (part 17 (pos 1) ∷ part 18 (pos 1) ∷ part 19 (pos 1) ∷ part 23 (pos 1) ∷ []) (pos 1)
          ∷ at_most (part 18 (pos 1) ∷ part 19 (pos 1) ∷ part 23 (pos 1) ∷ part 24 (pos 1) ∷ []) (pos 1)
          ∷ at_most (part 19 (pos 1) ∷ part 23 (pos 1) ∷ part 24 (pos 1) ∷ part 25 (pos 1) ∷ []) (pos 1)
          ∷ at_most (part 20 (pos 1) ∷ part 21 (pos 1) ∷ part 22 (pos 1) ∷ part 23 (pos 1) ∷ []) (pos 1)
          ∷ at_most (part 21 (pos 1) ∷ part 22 (pos 1) ∷ part 23 (pos 1) ∷ part 24 (pos 1) ∷ []) (pos 1)
          ∷ at_most (part 22 (pos 1) ∷ part 23 (pos 1) ∷ part 24 (pos 1) ∷ part 25 (pos 1) ∷ []) (pos 1)
          ∷ [];
      goal = part 0 (pos 100) ∷ part 1 (pos 1) ∷ [];
      base = pos 0;
    }

count_min_sketch_works : ip_of (with_terms count_min_sketch (record { symbols = symbols_of count_min_sketch; rows = record { by = negsuc 0 ∷ pos 0 ∷ []; most = negsuc 0 } ∷ []; ones = 1 ∷ []; base = pos 0; by = pos 100 ∷ pos 1 ∷ []; steps = [] })) (switch_of 3 1) (nth_size (3 ∷ 32 ∷ [])) ≡ count_min_sketch_program
count_min_sketch_works = refl
