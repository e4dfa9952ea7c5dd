-- What a sink over a writer stands for. Its clauses give what the writer has, which is known of some writers.
use Rattle.std.specs.Prelude.{ℕ, List, Option}
use Rattle.std.specs.Io.KnownBytes.{append_known}
use Rattle.outside.specs.declared.writer_sink.WriterSink.{WriterSink}

-- the bytes that were written, where they are known
abbrev pub written_bytes : {W : Type 0} → (W → Option (List ℕ)) → WriterSink W → Option (List ℕ)
written_bytes contents sink = contents sink.writer

-- the bytes that wait to be written
abbrev pub waiting_bytes : {W : Type 0} → WriterSink W → List ℕ
waiting_bytes sink = sink.buffered

-- the bytes that were put: those that were written, and after them those that wait
abbrev pub put_bytes : {W : Type 0} → (W → Option (List ℕ)) → WriterSink W → Option (List ℕ)
put_bytes contents sink = append_known (contents sink.writer) sink.buffered

-- how often calls have failed
abbrev pub write_fault_count : {W : Type 0} → WriterSink W → ℕ
write_fault_count sink = sink.faults
