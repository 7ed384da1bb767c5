-- The demands as theorems over the contracts that the sources have. Demand 1 is `Demand1`, by `Shape` and `Numbers`; demand 2 is `Demand2`, in the
-- words of `PathCalls`, `Told`, `Written` and `Rendered`; what the place of a bad number tells, request L3, is in `Faults`; that the two readers
-- answer the same, request L7, is in `Walk`; the keys of request L1 are in `Iteration`, in the words of `KeyCalls` and `Scanned`; demand 3 is
-- `Demand3`, in the words of `Held`, `Refusals` and `BookCalls`; what each call of a book does on all bytes is in `EachCall`, `NewCall`,
-- `OldestCall`, `ConvertCall` and `ConvertOwnersCall`; the clearing of request L13 is in `ClearCall`, and what it may move past in `ClearMoves`; that
-- no owner's calls change what another is answered or holds, request L10, is `Isolation`; both are of the generated contracts in `IsolatedCalls`;
-- that kind 8 is retired, request L14, is `Retired`, and of the generated contracts `RetiredCalls`; what plain and lenient calls share, request L6, is in `Manners`; the wide calls of request L8 are in `Wide`, in the words of `WideCalls`,
-- `WideWritten` and `WideRendered`; the packet keys of request L11 are in `Packets`, in the words of `PacketCalls` and `Packeted`; what lies below a
-- path, request L12, is `Below`, with its theorems in `Below` of proofs/, in the words of `Above`; filling a table and many lookups, request L9, are in `ManyCall`; `Useless` and, of
-- clearings, `UselessClearings` show which line each useless build breaks. Files that end in `Laws` may be skipped.
pub mod Numbers
pub mod Shape
pub mod ShapeLaws
pub mod KeepsLaws
pub mod BookNumberLaws
pub mod RoomLaws
pub mod TableNumberLaws
pub mod PathCalls
pub mod Told
pub mod ToldLaws
pub mod Written
pub mod Demand2Laws
pub mod Rendered
pub mod RenderedLaws
pub mod ModeLaws
pub mod KeyedLaws
pub mod WideShapeLaws
pub mod FunctionShapeLaws
pub mod Demand1
pub mod MeetsLaws
pub mod OneAnswerLaws
pub mod Demand2
pub mod WideCalls
pub mod WideWritten
pub mod WideAlikeLaws
pub mod WideLaws
pub mod WideTrimLaws
pub mod WideBackLaws
pub mod WideCallLaws
pub mod WideRendered
pub mod WideRenderedLaws
pub mod Wide
pub mod Faults
pub mod Walk
pub mod PathExistsLaws
pub mod KeyCalls
pub mod Scanned
pub mod IterationLaws
pub mod Iteration
pub mod Cases
pub mod Above
pub mod Below
pub mod Held
pub mod HeldLaws
pub mod Refusals
pub mod AnswerLaws
pub mod Permitted
pub mod PermittedLaws
pub mod CountLaws
pub mod MachineLaws
pub mod Demand3
pub mod Demand3Laws
pub mod Isolation
pub mod Useless
pub mod EachCall
pub mod EachCallLaws
pub mod BookCalls
pub mod Retired
pub mod RetiredLaws
pub mod RetiredCalls
pub mod Manners
pub mod PacketCalls
pub mod Packeted
pub mod PacketLaws
pub mod Packets
pub mod NewCall
pub mod NewCallLaws
pub mod OldestCall
pub mod OldestCallLaws
pub mod ClearCall
pub mod RoleLaws
pub mod ClearBookLaws
pub mod ClearCallLaws
pub mod UselessClearings
pub mod ExistsLaws
pub mod EventLaws
pub mod IsolationLaws
pub mod ClearMoves
pub mod ClearMovesLaws
pub mod IsolatedCalls
pub mod ConvertCall
pub mod ConvertCallLaws
pub mod ConvertOwnersCall
pub mod ConvertOwnersCallLaws
pub mod ManyCall
pub mod ManyCallLaws
