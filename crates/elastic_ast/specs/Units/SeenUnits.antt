-- The plain units that units show, this project's own.
use Rattle.std.specs.Prelude.{map}
use Rattle.elastic_ast.specs.declared.flat.Work.{Work}
use Rattle.elastic_ast.specs.declared.flat.Work.TheVariants as work
use Rattle.elastic_ast.specs.declared.flat.Unit.{Unit}
use Rattle.elastic_ast.specs.declared.flat.Units.{Units}
use Rattle.elastic_ast.specs.Seen.{seen_expr, seen_exprs, seen_stmt}
use Rattle.elastic_ast.specs.Units.PlainUnits.{PlainWork, PlainUnit, PlainUnits}

abbrev pub seen_work : Work → PlainWork
seen_work (work.Plain statement) = PlainWork.Plain (seen_stmt statement)
seen_work (work.Call statement) = PlainWork.Call (seen_stmt statement)
seen_work (work.Apply table) = PlainWork.Apply table
seen_work (work.Pred number condition) = PlainWork.Pred number (seen_expr condition)

abbrev pub seen_unit : Unit → PlainUnit
seen_unit unit =
    record {
      lits = unit.lits;
      conds = seen_exprs unit.conds;
      work = seen_work unit.work;
      loop_no = unit.loop_no;
      size = unit.size;
      index = unit.index;
      stage = unit.stage;
      reads = unit.reads;
      writes = unit.writes;
      cells = unit.cells;
      cell_width = unit.cell_width;
      cost = unit.cost;
      ops = unit.ops;
      table_bits = unit.table_bits;
      ternary_bits = unit.ternary_bits;
    }

abbrev pub seen_units : Units → PlainUnits
seen_units units =
    record {
      terms = units.terms;
      list = map seen_unit units.list;
      fixed_bits = units.fixed_bits;
      symbol_bits = units.symbol_bits;
    }
