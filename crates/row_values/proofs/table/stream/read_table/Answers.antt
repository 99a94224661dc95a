use Rattle.std.proofs.Common.{Bor, List, ℕ, ◌∙◌, sym, refl, inl, inr, Some, ◌++◌, ◌∷◌, []}
use Rattle.csv.specs.Reading.{Reached, default_config, strip_bom}
use Rattle.csv.specs.Records.{fields_of}
use Rattle.csv.specs.declared.parser.State.TheVariants as st
use Rattle.csv.proofs.ReadFacts.{rows-end, rows-more}
use Rattle.row_values.proofs.StreamLemmas.{stopped}
use Rattle.row_values.specs.Reading.{SoFar}
use Rattle.row_values.specs.Tables.{FirstBad}
use Rattle.row_values.proofs.table.stream.read_table.Goals as goal

pub loop-cells-init : goal.loop-cells-init
unfolding Reached
loop-cells-init c =
    let fr = c.from_reader-records.ensures in
    let h = c.has_headers.ensures in
    let f = c.flexible.ensures in
    let start = c.into_iter-cells-iterator.ensures.into_iter_gives ∙ refl in
    let rdr = c.into_byte_records-cells-items.ensures.rdr in
    let left = c.into_byte_records-cells-items.ensures.left in
    rw (start, rdr) (
      rw (f, h) at fr.trim ∙ c.new.ensures.trim,
      inr (inr (rw (f, h) at fr.has_headers, fr.headers)),
      left,
      rw (f, h) at fr.config ∙ c.new.ensures.config,
      strip_bom c.args.bytes.now,
      fr.source,
      [],
      (sym fr.state, refl),
      c.requires.kept,
    )

pub loop-cells-preserved : goal.loop-cells-preserved
loop-cells-preserved c =
    let inv = c.loop-cells.invariant in
    let s = rw (c.in-Some.is, c.in-Ok.is) at ((c.next.ensures.steps inv.2 inv.0).0 inv.1) in
    let m = rows-more (λ (s : Bor (List ℕ)). Some s.now) c.loop-cells.cells-iterator.rdr c.next.new.self.rdr (fields_of c.in-Ok.cells) default_config st.StartRecord (strip_bom c.args.bytes.now) inv.4 inv.6 inv.3 inv.5 inv.7 s.0 in
    (s.0.3 ∙ inv.0, inl s.1, s.2, s.0.2 ∙ inv.3, m.0, m.1, inv.6 ++ fields_of c.in-Ok.cells ∷ [], m.2, c.in-Ok-read_record.ensures inv.6 inv.8)

pub returns-in-Err-read_record : goal.returns-in-Err-read_record
returns-in-Err-read_record c =
    let inv = c.loop-cells.invariant in
    let s = rw (c.in-Some.is, c.in-Ok.is) at ((c.next.ensures.steps inv.2 inv.0).0 inv.1) in
    let m = rows-more (λ (s : Bor (List ℕ)). Some s.now) c.loop-cells.cells-iterator.rdr c.next.new.self.rdr (fields_of c.in-Ok.cells) default_config st.StartRecord (strip_bom c.args.bytes.now) inv.4 inv.6 inv.3 inv.5 inv.7 s.0 in
    stopped (SoFar c.args.columns.now.types.now c.args.columns.now.provides.now c.args.columns.now.requires_.now) (FirstBad c.args.columns.now.types.now c.args.columns.now.provides.now c.args.columns.now.requires_.now) c.args.bytes.now c.read_record.new.kept (inv.6 ++ fields_of c.in-Ok.cells ∷ []) c.in-Err-read_record.stop
    (c.next.new.self.rdr.state, m.0, m.2) (c.in-Err-read_record.ensures inv.6 inv.8)

pub returns : goal.returns
returns c =
    let inv = c.loop-cells.invariant in
    let s = rw c.in-None.is at ((c.next.ensures.steps inv.2 inv.0).0 inv.1) in
    (inv.6, (c.loop-cells.cells-iterator.rdr.state, inv.4, inv.7, rows-end (λ (s : Bor (List ℕ)). Some s.now) c.loop-cells.cells-iterator.rdr c.next.new.self.rdr [] default_config inv.4 inv.3 inv.5 s), inv.8)
